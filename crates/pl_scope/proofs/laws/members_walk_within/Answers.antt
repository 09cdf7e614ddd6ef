use Rattle.pl_scope.proofs.WalkedLaws.{member_walk_within}
use Rattle.pl_scope.proofs.laws.members_walk_within.Goals as goal

pub returns : goal.returns
returns g c = member_walk_within
