use Rattle.pl_scope.proofs.ShortIndexLaws.{versions_read}
use Rattle.pl_scope.proofs.short_index.versions_at.Goals as goal

pub returns : goal.returns
returns c = λ o has. versions_read c.args.index.now c.args.member o c.index.result.now has c.index.ensures
