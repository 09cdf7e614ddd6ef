use Rattle.pl_scope.proofs.WalkedLaws.{walk_is_walk}
use Rattle.pl_scope.proofs.laws.walks_are_walks.Goals as goal

pub returns : goal.returns
returns g c = walk_is_walk
