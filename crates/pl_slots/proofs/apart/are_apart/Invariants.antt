use Rattle.std.proofs.Common.{◌≡◌, length}
use Rattle.pl_slots.specs.Apart.{are_apart}
use Rattle.pl_slots.proofs.apart.are_apart.Given as goal

abbrev pub invariant-loop-left : goal.invariant-loop-left
invariant-loop-left l = are_apart l.left ≡ are_apart l.slots

abbrev pub decreases-loop-left : goal.decreases-loop-left
decreases-loop-left l = length l.left
