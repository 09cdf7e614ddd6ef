use Rattle.std.proofs.Common.{◌≡◌, ◌-◌, drop}
use Rattle.pl_lists.specs.Conflicts as conflicts
use Rattle.pl_lists.proofs.conflicts.ascend.Given as goal

abbrev pub invariant-loop-index : goal.invariant-loop-index
invariant-loop-index l = conflicts.ascend (drop (l.index - 1) l.rows) ≡ conflicts.ascend l.rows
