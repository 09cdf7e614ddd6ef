use Rattle.std.proofs.Common.{◌≡◌, take}
use Rattle.std.specs.Prelude.{fold}
use Rattle.pl_image.specs.Index as spec
use Rattle.pl_image.proofs.touched.patched.Given as goal

abbrev pub invariant-loop-touch : goal.invariant-loop-touch
invariant-loop-touch l = l.found ≡ fold (spec.laid_by l.patches l.address) l.below (take l.touch-index l.touching)
