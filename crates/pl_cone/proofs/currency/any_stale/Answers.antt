use Rattle.std.proofs.Common.{◌≡◌, Bool, true, false, List, [], ◌∷◌, refl, ◌∙◌}
use Rattle.std.specs.List.{list_any}
use mathlib.Core.Bool.{beq}
use Rattle.pl_cone.proofs.currency.any_stale.Goals as goal

any_is : (flags : List Bool) → list_any (λ b. beq b true) flags ≡ list_any (λ b. b) flags
any_is [] = refl
any_is (true ∷ flags) = refl
any_is (false ∷ flags) = any_is flags

pub returns : goal.returns
returns c = c.contains.ensures.value ∙ any_is c.args.stale.now
