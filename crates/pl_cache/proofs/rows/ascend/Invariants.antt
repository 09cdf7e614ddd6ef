use Rattle.std.proofs.Common.{◌≡◌, length}
use Rattle.pl_cache.specs.Spelling.{ascend}
use Rattle.pl_cache.proofs.rows.ascend.Given as goal

abbrev pub invariant-loop-left : goal.invariant-loop-left
invariant-loop-left l = ascend l.left ≡ ascend l.rows

abbrev pub decreases-loop-left : goal.decreases-loop-left
decreases-loop-left l = length l.left
