use Rattle.law_demo.proofs.LinkLaws.{scopes_link}
use Rattle.law_demo.proofs.links.settled_scopes_link.Goals as goal

pub returns : goal.returns
returns c = scopes_link
