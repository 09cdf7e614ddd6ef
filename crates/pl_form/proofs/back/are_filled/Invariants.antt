use Rattle.std.proofs.Common.{◌≡◌, ◌+◌, drop}
use Rattle.pl_form.specs.Back.{wanted}
use Rattle.pl_form.proofs.back.are_filled.Given as goal

abbrev pub invariant-loop-spot : goal.invariant-loop-spot
invariant-loop-spot l = l.size + wanted (drop l.spot-index l.spots) ≡ l.rest + (l.before + wanted l.spots)
