use Rattle.law_loads.proofs.HistoryLemmas.{woven_have_a_history}
use Rattle.law_loads.proofs.weaves.woven_have_a_history.Goals as goal

pub returns : goal.returns
returns c = woven_have_a_history
