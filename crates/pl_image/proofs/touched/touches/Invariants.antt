use Rattle.pl_image.specs.Index as spec
use Rattle.pl_image.proofs.touched.touches.Given as goal

abbrev pub invariant-loop-index : goal.invariant-loop-index
invariant-loop-index l = spec.IsIndexOf l.patches l.touched.items l.index
