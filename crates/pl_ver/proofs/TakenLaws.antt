-- The table of indices of no records.
use Rattle.std.proofs.Common.{◌≡◌, ℕ, Bool, false, List, [], replicate, ◌∙◌, arith}
use Rattle.std.proofs.lemmas.List.{get_or-replicate, length-replicate}
use Rattle.pl_ver.specs.declared.record.Record.{Record}
use Rattle.pl_ver.specs.Taken.{IsTaken}

pub none_taken : (n : ℕ) (records : List Record) (taken : List Bool) → n ≡ 0x10000 → records ≡ [] → taken ≡ replicate n false → IsTaken records taken
none_taken n records taken size none all = record {
  size = rw all (length-replicate n false ∙ size);
  each = λ index lt. rw (all, none) (get_or-replicate n index false false (omega (arith, lt, size)));
}
