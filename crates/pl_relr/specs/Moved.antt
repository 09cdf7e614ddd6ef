-- A table of packed relative relocations as it moves with its object: its even entries, which are addresses, move; odd ones, which are bits, stay.
use Rattle.std.specs.Prelude.{ℕ, ◌*◌, List, map, drop, ◌++◌, if◌then◌else◌}
use Rattle.pl_base.specs.Sums.{plus}
use Rattle.pl_relr.specs.declared.entries.TheConstants.{ENTRY_SIZE}
use Rattle.pl_relr.specs.Entries.{entries, entry_count, table_of, is_even}

-- a number added to an entry, modulo 2^64, where it is even
unfoldable pub moved_entry : ℕ → ℕ → ℕ
moved_entry more entry = if is_even entry then plus entry more else entry

-- each whole entry moved; bytes after the last one stay
unfoldable pub moved : ℕ → List ℕ → List ℕ
moved more table = table_of (map (moved_entry more) (entries table)) ++ drop (ENTRY_SIZE * entry_count table) table
