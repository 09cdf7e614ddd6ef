use Rattle.pl_scope.proofs.WalkedLaws.{walk_is_closed}
use Rattle.pl_scope.proofs.laws.walks_are_closed.Goals as goal

pub returns : goal.returns
returns c = walk_is_closed
