use Rattle.std.proofs.Common.{◌≡◌, ◌++◌, take}
use Rattle.std.specs.List.{flat_map}
use Rattle.pl_journal.specs.Meaning.{row_of}
use Rattle.pl_journal.specs.Spelling.{row_bytes}
use Rattle.pl_journal.proofs.writing.push_rows.Given as goal

abbrev pub invariant-loop-change : goal.invariant-loop-change
invariant-loop-change l = l.out.items ≡ l.fn.out.items ++ flat_map (λ change. row_bytes (row_of change)) (take l.change-index l.changes)
