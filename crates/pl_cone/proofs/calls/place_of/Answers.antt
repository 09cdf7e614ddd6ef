use Rattle.std.proofs.Common.{Bool, ℕ, List, rules}
use Rattle.std.specs.Str.{bytes_eq}
use Rattle.pl_slots.specs.declared.slot.Slot.{Slot}
use Rattle.pl_cone.specs.Plans.{slot_of, start_of}
use Rattle.pl_cone.proofs.ListLaws.{find_here, find_past, find_done}
use Rattle.pl_cone.proofs.calls.place_of.Goals as goal

abbrev named : List ℕ → Slot → Bool
named n s = bytes_eq s.name n

pub returns-then-eq : goal.returns-then-eq
unfolding slot_of
returns-then-eq c =
    find_here (named c.args.taken.now.name) start_of c.args.slots.now c.loop-slot.slot-index c.slot-item.result _ c.loop-slot-test.true c.slot-item.is (search rules) c.loop-slot.invariant

pub loop-slot-preserved : goal.loop-slot-preserved
unfolding slot_of
loop-slot-preserved c =
    find_past (named c.args.taken.now.name) start_of c.args.slots.now c.loop-slot.slot-index c.slot-item.result _ c.loop-slot-test.true c.slot-item.is (search rules) c.loop-slot.invariant

pub returns : goal.returns
unfolding slot_of
returns c = find_done (named c.args.taken.now.name) start_of c.args.slots.now c.loop-slot.slot-index _ c.loop-slot-test.false c.loop-slot.invariant
