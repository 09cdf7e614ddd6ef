use Rattle.std.proofs.Common.{◌≡◌, false, take}
use Rattle.pl_rewrite.specs.Ranges.{is_near}
use Rattle.pl_rewrite.proofs.ranges.Ranges.is_near.Given as goal

abbrev pub invariant-loop-range : goal.invariant-loop-range
invariant-loop-range l = is_near (take l.range-index l.range-items) l.start ≡ false
