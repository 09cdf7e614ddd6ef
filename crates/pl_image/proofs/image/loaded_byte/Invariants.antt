use Rattle.std.proofs.Common.{◌≡◌, drop}
use Rattle.pl_base.specs.Memory.{layered}
use Rattle.pl_image.specs.Image as spec
use Rattle.pl_image.proofs.image.loaded_byte.Given as goal

abbrev pub invariant-loop-object : goal.invariant-loop-object
invariant-loop-object l = layered (spec.all_pieces (drop l.object-index l.objects)) l.address ≡ layered (spec.all_pieces l.objects) l.address
