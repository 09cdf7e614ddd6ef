use Rattle.std.proofs.Common.{◌≡◌, ◌++◌, drop}
use Rattle.pl_lists.specs.Conflicts as conflicts
use Rattle.pl_lists.proofs.conflicts.write_conflicts.Given as goal

abbrev pub invariant-loop-row : goal.invariant-loop-row
invariant-loop-row l = l.table.items ++ conflicts.conflicts_bytes (drop l.row-index l.rows) ≡ conflicts.conflicts_bytes l.rows
