use Rattle.pl_base.specs.Windows.{put_all}
use Rattle.pl_form.specs.Back.{visible}
use Rattle.pl_form.proofs.PlaceLaws.{IsPutting}
use Rattle.pl_form.proofs.places.put_visible.Given as goal

abbrev pub invariant-loop-spot : goal.invariant-loop-spot
invariant-loop-spot l = IsPutting l.spots l.spot-index l.rest l.bytes (put_all (visible l.spots l.flat) l.initial.bytes)
