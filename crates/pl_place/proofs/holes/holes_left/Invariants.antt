use Rattle.std.proofs.Common.{◌≡◌, take}
use Rattle.std.specs.List.{fold}
use Rattle.pl_slots.specs.Holes.{region_holes}
use Rattle.pl_place.specs.Left.{without_busy}
use Rattle.pl_place.proofs.holes.holes_left.Given as goal

abbrev pub invariant-loop-taken : goal.invariant-loop-taken
invariant-loop-taken l = l.holes ≡ fold without_busy (region_holes l.fn.region) (take l.taken-index l.busy)
