use Rattle.std.proofs.Common.{◌≡◌, ◌++◌, drop}
use Rattle.pl_loader.specs.Places as spec
use Rattle.pl_loader.proofs.slot_places.joined.Given as goal

abbrev pub invariant-loop-own : goal.invariant-loop-own
invariant-loop-own l = l.places.items ++ spec.joined (drop l.own-index l.owns) l.left ≡ spec.joined l.owns l.starts
