use Rattle.pl_scope.proofs.WalkedLaws.{member_tells_walk}
use Rattle.pl_scope.proofs.laws.members_tell_walks.Goals as goal

pub returns : goal.returns
returns g c = member_tells_walk
