use Rattle.std.proofs.Common.{◌≡◌, ◌++◌, drop}
use Rattle.pl_form.specs.Reading.{standing}
use Rattle.pl_form.proofs.read.standing.Given as goal

abbrev pub invariant-loop-spot : goal.invariant-loop-spot
invariant-loop-spot l = l.flat.items ++ standing (drop l.spot-index l.spots) l.front l.zeros ≡ standing l.spots l.front l.zeros
