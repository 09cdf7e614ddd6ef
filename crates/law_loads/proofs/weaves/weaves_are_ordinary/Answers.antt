use Rattle.law_loads.proofs.OrdinaryLaws.{weaves_are_ordinary}
use Rattle.law_loads.proofs.weaves.weaves_are_ordinary.Goals as goal

pub returns : goal.returns
returns g c = weaves_are_ordinary
