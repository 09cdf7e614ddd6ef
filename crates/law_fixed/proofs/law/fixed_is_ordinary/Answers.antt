use Rattle.law_fixed.proofs.Theorem.{fixed_is_ordinary}
use Rattle.law_fixed.proofs.law.fixed_is_ordinary.Goals as goal

pub returns : goal.returns
returns c = fixed_is_ordinary
