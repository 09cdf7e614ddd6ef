use Rattle.pl_change.proofs.AgainLemmas.{commands_on}
use Rattle.pl_change.proofs.laws.commands_go_on.Goals as goal

pub returns : goal.returns
returns c = commands_on
