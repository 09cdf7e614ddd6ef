use Rattle.pl_safe.proofs.RunLemmas.{others_keep}
use Rattle.pl_safe.proofs.law.others_keep_originals.Goals as goal

pub returns : goal.returns
returns c = others_keep
