use Rattle.std.proofs.Common.{◌≡◌, take}
use Rattle.pl_image.specs.Loads as spec
use Rattle.pl_image.proofs.loading.loaded_pieces.Given as goal

abbrev pub invariant-loop-segment : goal.invariant-loop-segment
invariant-loop-segment l = l.pieces ≡ spec.loaded_pieces l.place l.bytes (take l.segment-index l.segments)
