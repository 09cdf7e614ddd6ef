use Rattle.pl_rewrite.proofs.HistoryLaws.{verified_keep_the_rule}
use Rattle.pl_rewrite.proofs.laws.verified_keep_the_rule.Goals as goal

pub returns : goal.returns
returns c = verified_keep_the_rule
