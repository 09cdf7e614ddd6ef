use Rattle.std.proofs.Common.{◌≡◌, map, take}
use Rattle.pl_cone.specs.Calls.{place_of}
use Rattle.pl_cone.proofs.calls.places_of.Given as goal

abbrev pub invariant-loop-taken : goal.invariant-loop-taken
invariant-loop-taken l = l.places ≡ map (place_of l.slots) (take l.taken-index l.files)
