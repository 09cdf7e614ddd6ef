use Rattle.pl_scope.proofs.ScopeIndexLaws.{own_read}
use Rattle.pl_scope.proofs.scope_index.own_at.Goals as goal

pub returns : goal.returns
returns c = λ o has. own_read c.args.index.now c.args.member o c.index.result.now has c.index.ensures
