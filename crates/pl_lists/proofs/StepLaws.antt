-- Two tests that did not refuse, and three that hold.
use Rattle.std.proofs.Common.{◌≡◌, Bool, true, false, ◌&&◌, not, [], ◌∷◌, Result, Ok, refl}
use Rattle.pl_base.specs.Answers.{refuse}
use Rattle.pl_lists.specs.declared.fault.ListFault.{ListFault}
use Rattle.pl_lists.specs.declared.fault.ListFault.TheVariants.{BadList}

pub refuse_two : {A : Type 0} (b c : Bool) (next : Result A ListFault) (y : A) → refuse ((not b, BadList) ∷ (not c, BadList) ∷ []) next ≡ Ok y → (b ≡ true) × (c ≡ true) × (next ≡ Ok y)
refuse_two true true next y e = (refl, refl, e)
refuse_two true false next y e = absurd cc
refuse_two false c next y e = absurd cc

pub all_three : (b c d : Bool) → (b && c && d) ≡ true → (b ≡ true) × (c ≡ true) × (d ≡ true)
all_three true true d e = (refl, refl, e)
all_three true false d e = absurd cc
all_three false c d e = absurd cc
