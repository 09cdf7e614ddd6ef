use Rattle.std.proofs.Common.{◌-◌}
use Rattle.pl_scope.specs.declared.constants.TheConstants.{MAX_MEMBERS}
use Rattle.pl_batch.proofs.VerifyLemmas.{SoFar}
use Rattle.pl_batch.proofs.verifying.take_walk.Given as goal

abbrev pub invariant-loop-wanted : goal.invariant-loop-wanted
invariant-loop-wanted g l = SoFar (g.D.Folder.seen l.fn.folder) (g.D.Folder.seen l.folder) l.name l.files l.order

abbrev pub decreases-loop-wanted : goal.decreases-loop-wanted
decreases-loop-wanted g l = MAX_MEMBERS - l.order.given
