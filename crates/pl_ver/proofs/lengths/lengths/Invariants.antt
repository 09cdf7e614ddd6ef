use Rattle.std.proofs.Common.{◌≤◌, length}
use Rattle.pl_ver.specs.Chains.{is_named}
use Rattle.pl_ver.specs.Lengths.{AreLengths}
use Rattle.pl_ver.proofs.lengths.lengths.Given as goal

abbrev pub invariant-loop-at : goal.invariant-loop-at
invariant-loop-at l = (l.at ≤ length l.section) × AreLengths (is_named l.strings l.section l.field) l.size l.section l.lengths.items l.at

abbrev pub decreases-loop-at : goal.decreases-loop-at
decreases-loop-at l = l.at
