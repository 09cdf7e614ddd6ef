use Rattle.law_demo.proofs.AcceptedLaws.{plain_accepted}
use Rattle.law_demo.proofs.accepted.plain_is_accepted.Goals as goal

pub returns : goal.returns
returns c = plain_accepted
