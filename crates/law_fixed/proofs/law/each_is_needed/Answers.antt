use Rattle.law_fixed.proofs.Controls.{each_is_needed}
use Rattle.law_fixed.proofs.law.each_is_needed.Goals as goal

pub returns : goal.returns
returns c = each_is_needed
