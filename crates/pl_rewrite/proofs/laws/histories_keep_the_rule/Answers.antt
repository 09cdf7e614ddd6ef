use Rattle.pl_rewrite.proofs.HistoryLaws.{histories_keep_the_rule}
use Rattle.pl_rewrite.proofs.laws.histories_keep_the_rule.Goals as goal

pub returns : goal.returns
returns c = histories_keep_the_rule
