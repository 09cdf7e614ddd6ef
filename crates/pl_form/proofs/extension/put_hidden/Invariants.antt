use Rattle.pl_base.specs.Windows.{put_all}
use Rattle.pl_form.specs.Parts.{hidden}
use Rattle.pl_form.proofs.ExtensionLaws.{IsHiding}
use Rattle.pl_form.proofs.extension.put_hidden.Given as goal

abbrev pub invariant-loop-spot : goal.invariant-loop-spot
invariant-loop-spot l = IsHiding l.spots l.spot-index l.rest l.zeros (put_all (hidden l.spots l.flat) l.initial.zeros)
