use Rattle.pl_rewrite.proofs.SoundLaws.{mixtures_keep_the_rule}
use Rattle.pl_rewrite.proofs.laws.mixtures_keep_the_rule.Goals as goal

pub returns : goal.returns
returns c = mixtures_keep_the_rule
