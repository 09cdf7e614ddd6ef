use Rattle.law_demo.proofs.ClosedLaws.{roots_walk}
use Rattle.law_demo.proofs.closed.roots_walk_within.Goals as goal

pub returns : goal.returns
returns g c = roots_walk
