use Rattle.std.proofs.Common.{◌≡◌, take}
use Rattle.std.specs.List.{flat_map}
use Rattle.pl_slots.specs.Holes.{cut}
use Rattle.pl_slots.proofs.holes.cut_each.Given as goal

abbrev pub invariant-loop-hole : goal.invariant-loop-hole
invariant-loop-hole l = l.left.items ≡ flat_map (cut l.taken) (take l.hole-index l.holes)
