use Rattle.pl_cone.proofs.RuleLaws.{rule_is_one}
use Rattle.pl_cone.proofs.laws.rule_is_one.Goals as goal

pub returns : goal.returns
returns g c = rule_is_one
