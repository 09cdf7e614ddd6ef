use Rattle.law_loads.proofs.HistoryLaws.{loads_over_histories}
use Rattle.law_loads.proofs.paths.loads_over_histories_are_ordinary.Goals as goal

pub returns : goal.returns
returns g c = loads_over_histories
