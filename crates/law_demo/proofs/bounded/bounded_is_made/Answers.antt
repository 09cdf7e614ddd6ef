use Rattle.law_demo.proofs.MadeLaws.{bounded_made}
use Rattle.law_demo.proofs.bounded.bounded_is_made.Goals as goal

pub returns : goal.returns
returns c = bounded_made
