use Rattle.pl_share.proofs.KeptLaws.{plan_apart}
use Rattle.pl_share.proofs.AgreeLaws.{plan_together}
use Rattle.pl_share.proofs.laws.plans_agree.Goals as goal

pub returns-clause-apart : goal.returns-clause-apart
returns-clause-apart c = plan_apart

pub returns-clause-together : goal.returns-clause-together
returns-clause-together c = plan_together
