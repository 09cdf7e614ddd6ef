use Rattle.std.proofs.Common.{◌≡◌, ◌*◌, ◌^◌, ◌≤◌, sum_by, take}
use Rattle.pl_place.specs.Numbering.{room}
use Rattle.pl_place.proofs.numbering.all_room.Given as goal

abbrev pub invariant-loop-hole : goal.invariant-loop-hole
invariant-loop-hole l = (l.all ≡ sum_by (room l.span l.align) (take l.hole-index l.holes)) × (l.all ≤ 2 ^ 64 * l.hole-index)
