use Rattle.std.proofs.Common.{◌≡◌, ◌++◌, drop}
use Rattle.pl_image.specs.Index as spec
use Rattle.pl_image.proofs.ranges.merged.Given as goal

abbrev pub invariant-loop-range : goal.invariant-loop-range
invariant-loop-range l = l.kept.items ++ spec.merged l.end (drop l.range-index l.ranges) ≡ spec.merged 0 l.ranges
