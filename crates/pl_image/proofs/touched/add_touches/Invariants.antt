use Rattle.pl_image.specs.Index as spec
use Rattle.pl_image.proofs.touched.add_touches.Given as goal

abbrev pub invariant-loop-number : goal.invariant-loop-number
invariant-loop-number l = spec.IsIndexTo l.patches l.touched.items l.index l.number
