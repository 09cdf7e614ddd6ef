use Rattle.pl_weave.proofs.LedLaws.{finished_are_loads}
use Rattle.pl_weave.proofs.laws.finished_are_loads.Goals as goal

pub returns : goal.returns
returns g c = finished_are_loads
