use Rattle.std.proofs.Common.{◌∙◌, ℕ, List, Some, ap, sym}
use Rattle.std.specs.Option.{option_copied}
use Rattle.pl_object.proofs.names_read.NamesRead.again.Goals as goal

pub returns-in-None : goal.returns-in-None
returns-in-None c = ap option_copied (sym c.in-None.is) ∙ c.get.ensures.value

pub returns-in_ok-again-in-Some : goal.returns-in_ok-again-in-Some
returns-in_ok-again-in-Some c = ap (λ (n : List ℕ). Some n) c.in_ok-again-in-Some.ensures ∙ ap option_copied (sym c.in-Some.is) ∙ c.get.ensures.value
