use Rattle.std.proofs.Common.{◌≡◌, ◌≤◌, false, length, drop}
use Rattle.std.specs.List.{list_any}
use Rattle.pl_base.specs.Strings.{is_zero}
use Rattle.pl_base.proofs.strings.up_to_last_zero.Given as goal

abbrev pub invariant-loop-size : goal.invariant-loop-size
invariant-loop-size l = (l.size ≤ length l.bytes) × (list_any is_zero (drop l.size l.bytes) ≡ false)

abbrev pub decreases-loop-size : goal.decreases-loop-size
decreases-loop-size l = l.size
