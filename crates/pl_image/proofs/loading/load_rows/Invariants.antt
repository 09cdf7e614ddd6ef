use Rattle.std.proofs.Common.{◌≡◌, take, map}
use Rattle.pl_image.specs.Loads as spec
use Rattle.pl_image.proofs.loading.load_rows.Given as goal

abbrev pub invariant-loop-segment : goal.invariant-loop-segment
invariant-loop-segment l = l.rows ≡ map (spec.load_at l.place) (take l.segment-index l.segments)
