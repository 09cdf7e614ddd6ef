use Rattle.pl_conflict.proofs.PieceLaws.{fast_ordinary}
use Rattle.pl_conflict.proofs.law.fast_is_ordinary.Goals as goal

pub returns : goal.returns
returns c = fast_ordinary
