use Rattle.law_fixed.proofs.Controls.{two_are_fixed_alike}
use Rattle.law_fixed.proofs.law.two_are_fixed_alike.Goals as goal

pub returns : goal.returns
returns c = two_are_fixed_alike
