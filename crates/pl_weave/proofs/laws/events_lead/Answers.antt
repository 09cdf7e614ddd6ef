use Rattle.pl_weave.proofs.LedLaws.{events_lead}
use Rattle.pl_weave.proofs.laws.events_lead.Goals as goal

pub returns : goal.returns
returns g c = events_lead
