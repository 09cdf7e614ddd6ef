use Rattle.std.proofs.Common.{◌≡◌, map, take}
use Rattle.pl_cone.specs.Slots.{start_at}
use Rattle.pl_cone.proofs.planning.places.Given as goal

abbrev pub invariant-loop-position : goal.invariant-loop-position
invariant-loop-position l = l.places ≡ map (start_at l.slots) (take l.position-index l.positions)
