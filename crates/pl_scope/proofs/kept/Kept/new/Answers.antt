use Rattle.pl_scope.specs.Scope.{objects}
use Rattle.pl_scope.proofs.KeptLaws.{unasked_kept}
use Rattle.pl_scope.proofs.kept.Kept.new.Goals as goal

pub invariant_of-result : goal.invariant_of-result
invariant_of-result c = record { index = c.in_ok-index.ensures; rows = unasked_kept (objects c.args.scope.now) _ c.in_ok-rows.ensures }
