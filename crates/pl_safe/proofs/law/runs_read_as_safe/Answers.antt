use Rattle.pl_safe.proofs.RunLemmas.{runs_read}
use Rattle.pl_safe.proofs.law.runs_read_as_safe.Goals as goal

pub returns : goal.returns
returns c = runs_read
