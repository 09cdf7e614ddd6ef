-- A search that goes from member to member.
use Rattle.std.proofs.Common.{◌≡◌, ℕ, suc, ◌+◌, ◌-◌, ◌<◌, ◌≤◌, List, Option, None, refl, arith}
use Rattle.std.specs.Option.{option_or}
use Rattle.pl_sym.specs.declared.class.Class.{Class}
use Rattle.pl_object.specs.declared.object.Object.{Object}
use Rattle.pl_scope.specs.Finds.{in_member, first_in, from_member}

-- one member more
pub first_more : (objects : List Object) (name : List ℕ) (class : Class) (version : Option (List ℕ)) (m c : ℕ) → m < c
    → first_in objects name class version (from_member m c) ≡ option_or (in_member objects name class version m) (first_in objects name class version (from_member (m + 1) c))
unfolding first_in
first_more objects name class version m c lt = let k : c - m ≡ suc (c - (m + 1)) = omega arith in rw k refl

-- behind the last member
pub first_done : (objects : List Object) (name : List ℕ) (class : Class) (version : Option (List ℕ)) (m c : ℕ) → c ≤ m
    → first_in objects name class version (from_member m c) ≡ None
unfolding first_in
first_done objects name class version m c le = let k : c - m ≡ 0 = omega arith in rw k refl
