use Rattle.std.proofs.Common.{◌≡◌, drop}
use Rattle.pl_base.specs.Windows.{are_in}
use Rattle.pl_form.specs.Back.{spot_windows}
use Rattle.pl_form.proofs.back.are_spots_in.Given as goal

abbrev pub invariant-loop-spot : goal.invariant-loop-spot
invariant-loop-spot l = are_in l.size (spot_windows (drop l.spot-index l.spots)) ≡ are_in l.size (spot_windows l.spots)
