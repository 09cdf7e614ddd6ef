use Rattle.std.proofs.Common.{List, ap, ◌∙◌, map}
use Rattle.pl_slots.specs.declared.slot.Slot.{Slot}
use Rattle.pl_cone.specs.Slots.{start_at}
use Rattle.pl_cone.proofs.planning.slots_of.Goals as goal

pub planned_slots-requires : goal.planned_slots-requires
planned_slots-requires c = record { table = c.requires; wanting = c.in_ok-wanting.ensures }

pub returns : goal.returns
returns c = (
  c.in_ok-slots.ensures.value,
  c.in_ok-slots.ensures.names,
  c.in_ok-places.ensures ∙ (ap (λ (ss : List Slot). map (start_at ss) c.deref.result.now) c.as_slice.ensures ∙ ap (map (start_at c.in_ok-slots.slots)) (c.deref.ensures.value ∙ c.in_ok-wanting.ensures.positions)),
)
