use Rattle.std.proofs.Common.{drop}
use Rattle.pl_place.proofs.PlacedLaws.{IsSoFar}
use Rattle.pl_place.proofs.placing.placed.Given as goal

abbrev pub invariant-loop-want : goal.invariant-loop-want
invariant-loop-want g l = IsSoFar (goal.F-post g l.placer) l.fn.free l.wants l.holes (drop l.want-index l.wants) l.starts.items
