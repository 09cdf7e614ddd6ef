use Rattle.std.proofs.Common.{◌≡◌, drop}
use Rattle.pl_cone.specs.Plans.{slot_of}
use Rattle.pl_cone.proofs.calls.place_of.Given as goal

abbrev pub invariant-loop-slot : goal.invariant-loop-slot
invariant-loop-slot l = slot_of (drop l.slot-index l.slots) l.taken.name ≡ slot_of l.slots l.taken.name
