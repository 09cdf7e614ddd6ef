-- A table of the indices that records have.
use Rattle.std.specs.Prelude.{◌≡◌, ◌<◌, ℕ, Bool, false, List, length, slice_index_or}
use Rattle.pl_ver.specs.declared.record.Record.{Record}
use Rattle.pl_ver.specs.Versions.{any_has}

-- for each index of 16 bits, whether a record has it
pub record IsTaken (records : List Record) (taken : List Bool) : Type 0 where
  pub size : length taken ≡ 0x10000
  pub each : (index : ℕ) → index < 0x10000 → slice_index_or taken index false ≡ any_has index records
