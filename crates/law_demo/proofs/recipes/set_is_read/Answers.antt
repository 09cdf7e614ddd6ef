use Rattle.law_demo.proofs.DrawnLaws.{set_read}
use Rattle.law_demo.proofs.recipes.set_is_read.Goals as goal

pub returns : goal.returns
returns c = set_read
