use Rattle.pl_change.proofs.LookedLemmas.{unlooked}
use Rattle.pl_change.proofs.looked.Looked.new.Goals as goal

pub returns : goal.returns
returns c = unlooked c.new.result c.new.ensures.empty
