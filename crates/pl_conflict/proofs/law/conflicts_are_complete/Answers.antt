use Rattle.pl_conflict.proofs.CompleteLaws.{conflicts_complete}
use Rattle.pl_conflict.proofs.law.conflicts_are_complete.Goals as goal

pub returns : goal.returns
returns c = conflicts_complete
