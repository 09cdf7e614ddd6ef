-- A walk that goes from name to name: what was walked so far, and what is still to come, are the whole. A loader that asks for one file after the other goes by these laws.
use Rattle.std.proofs.Common.{◌≡◌, ℕ, zero, suc, ◌+◌, ◌-◌, ◌<◌, ◌≤◌, Bool, true, false, List, [], ◌∷◌, ◌++◌, Some, None, Result, Ok, Err, refl, sym, ap, ◌∙◌, arith}
use Rattle.std.proofs.lemmas.List.{append-nil}
use Rattle.std.specs.Prelude.{MatchBool, ⊤}
use Rattle.pl_base.specs.Answers.{◌>>=◌, because}
use Rattle.pl_base.specs.Each.{with_front}
use Rattle.pl_base.proofs.EachLaws.{front_nothing, regroup}
use Rattle.pl_object.specs.declared.object.Object.{Object}
use Rattle.pl_scope.specs.Walking.{Walking, wants}
use Rattle.pl_scope.specs.Walk.{Walked, is_memory, entered, next, give, of_wanted, at_most, remaining, walk, begun, IsUnderWay}
use Rattle.pl_scope.specs.declared.constants.TheConstants.{MAX_MEMBERS}
use Rattle.pl_scope.specs.declared.fault.WalkFault.{WalkFault}

-- ---- one object more

next_given : (w v : Walking) (o : Object) (names : Result (List (List ℕ)) WalkFault) → (names >>= λ all. Ok (next w o all)) ≡ Ok v → v.given ≡ w.given + 1
next_given w v o (Ok all) is = cc
next_given w v o (Err e) is = cc

entered_given_after : (w v : Walking) (o : Object) (checks : Result (Unit {0}) WalkFault) (names : Result (List (List ℕ)) WalkFault) → (checks >>= λ _. names >>= λ all. Ok (next w o all)) ≡ Ok v → v.given ≡ w.given + 1
entered_given_after w v o (Ok _) names is = next_given w v o names is
entered_given_after w v o (Err e) names is = cc

entered_given : (w v : Walking) (n : List ℕ) (o : Object) → entered w n o ≡ Ok v → v.given ≡ w.given + 1
unfolding entered
entered_given w v n o is = entered_given_after w v o _ _ is

give_is : (w : Walking) (n : List ℕ) (o : Object) → wants w ≡ Some n → give w o ≡ entered w n o
give_is w n o is = ap (of_wanted w o) is

-- one object more was given
pub give_given : (w v : Walking) (n : List ℕ) (o : Object) → wants w ≡ Some n → give w o ≡ Ok v → v.given ≡ w.given + 1
give_given w v n o is given = entered_given w v n o (sym (give_is w n o is) ∙ given)

-- ---- what is still to come

step : {E : Type 0} (fault : WalkFault → E) (files : List ℕ → Result Object E) (w : Walking) (n : List ℕ) → w.given < MAX_MEMBERS → wants w ≡ Some n
    → remaining fault files w ≡ (files n >>= λ o. because fault (entered w n o) >>= λ v. at_most fault files (MAX_MEMBERS - (w.given + 1)) v >>= λ rest. Ok ((n, o) ∷ rest))
unfolding remaining at_most
step fault files w n lt is = let k : MAX_MEMBERS - w.given ≡ suc (MAX_MEMBERS - (w.given + 1)) = omega arith in rw (k, is) refl

done : {E : Type 0} (fault : WalkFault → E) (files : List ℕ → Result Object E) (w : Walking) (most : ℕ) → wants w ≡ None → at_most fault files most w ≡ Ok []
unfolding at_most
done fault files w zero is = refl
done fault files w (suc most) is = rw is refl

-- nothing was walked yet
pub walk_begins : {E : Type 0} (fault : WalkFault → E) (files : List ℕ → Result Object E) (name : List ℕ) → IsUnderWay fault files name [] (begun name)
unfolding walk
walk_begins fault files name = front_nothing (remaining fault files (begun name))

-- the wanted name is given its object
pub walk_goes_on : {E : Type 0} (fault : WalkFault → E) (files : List ℕ → Result Object E) (name : List ℕ) (front : Walked) (w v : Walking) (n : List ℕ) (o : Object) → w.given < MAX_MEMBERS → wants w ≡ Some n
    → files n ≡ Ok o → give w o ≡ Ok v → IsUnderWay fault files name front w → IsUnderWay fault files name (front ++ (n, o) ∷ []) v
unfolding remaining
walk_goes_on {E = E} fault files name front w v n o lt is file given so_far =
    let entry : entered w n o ≡ Ok v = sym (give_is w n o is) ∙ given in
    let one : remaining fault files w ≡ (at_most fault files (MAX_MEMBERS - (w.given + 1)) v >>= λ rest. Ok ((n, o) ∷ rest)) = step fault files w n lt is ∙ rw (file, entry) refl in
    let same : remaining fault files w ≡ (remaining fault files v >>= λ rest. Ok ((n, o) ∷ rest)) = one ∙ rw (entered_given w v n o entry) refl in
    sym (ap (with_front front) same ∙ regroup front (n, o) (remaining fault files v)) ∙ so_far

-- the wanted name has no object
pub walk_lacks : {E : Type 0} (fault : WalkFault → E) (files : List ℕ → Result Object E) (name : List ℕ) (front : Walked) (w : Walking) (n : List ℕ) (e : E) → w.given < MAX_MEMBERS → wants w ≡ Some n
    → files n ≡ Err e → IsUnderWay fault files name front w → walk fault files name ≡ Err e
walk_lacks fault files name front w n e lt is file so_far =
    let one : remaining fault files w ≡ Err e = step fault files w n lt is ∙ rw file refl in
    sym so_far ∙ ap (with_front front) one

-- the same, or a want of memory
pub walk_lacks_or : {E : Type 0} (memory : E → Bool) (fault : WalkFault → E) (files : List ℕ → Result Object E) (name : List ℕ) (front : Walked) (w : Walking) (n : List ℕ) (e : E) → w.given < MAX_MEMBERS → wants w ≡ Some n
    → MatchBool (memory e) ⊤ (files n ≡ Err e) → IsUnderWay fault files name front w → MatchBool (memory e) ⊤ (walk fault files name ≡ Err e)
walk_lacks_or memory fault files name front w n e lt is file so_far =
    elim (memory e) as (λ b. MatchBool b ⊤ (files n ≡ Err e) → MatchBool b ⊤ (walk fault files name ≡ Err e)) [
      | true ↦ λ _. tt
      | false ↦ λ lacks. walk_lacks fault files name front w n e lt is lacks so_far
    ] file

-- the wanted name's object is refused
pub walk_stops : {E : Type 0} (fault : WalkFault → E) (files : List ℕ → Result Object E) (name : List ℕ) (front : Walked) (w : Walking) (n : List ℕ) (o : Object) (f : WalkFault) → w.given < MAX_MEMBERS → wants w ≡ Some n
    → files n ≡ Ok o → give w o ≡ Err f → IsUnderWay fault files name front w → walk fault files name ≡ Err (fault f)
walk_stops fault files name front w n o f lt is file given so_far =
    let entry : entered w n o ≡ Err f = sym (give_is w n o is) ∙ given in
    let one : remaining fault files w ≡ Err (fault f) = step fault files w n lt is ∙ rw (file, entry) refl in
    sym so_far ∙ ap (with_front front) one

-- the same, or a want of memory
pub walk_stops_or : {E : Type 0} (fault : WalkFault → E) (files : List ℕ → Result Object E) (name : List ℕ) (front : Walked) (w : Walking) (n : List ℕ) (o : Object) (f : WalkFault) → w.given < MAX_MEMBERS → wants w ≡ Some n
    → files n ≡ Ok o → MatchBool (is_memory f) ⊤ (give w o ≡ Err f) → IsUnderWay fault files name front w → MatchBool (is_memory f) ⊤ (walk fault files name ≡ Err (fault f))
walk_stops_or fault files name front w n o f lt is file given so_far =
    elim (is_memory f) as (λ b. MatchBool b ⊤ (give w o ≡ Err f) → MatchBool b ⊤ (walk fault files name ≡ Err (fault f))) [
      | true ↦ λ _. tt
      | false ↦ λ stops. walk_stops fault files name front w n o f lt is file stops so_far
    ] given

-- no name is wanted
pub walk_ends : {E : Type 0} (fault : WalkFault → E) (files : List ℕ → Result Object E) (name : List ℕ) (front : Walked) (w : Walking) → wants w ≡ None
    → IsUnderWay fault files name front w → walk fault files name ≡ Ok front
unfolding remaining
walk_ends {E = E} fault files name front w is so_far =
    sym so_far ∙ ap (with_front front) (done fault files w (MAX_MEMBERS - w.given) is) ∙ ap (λ (all : Walked). Ok all) (append-nil front)

-- as many objects were given as a walk may have
pub walk_is_full : {E : Type 0} (fault : WalkFault → E) (files : List ℕ → Result Object E) (name : List ℕ) (front : Walked) (w : Walking) → MAX_MEMBERS ≤ w.given
    → IsUnderWay fault files name front w → walk fault files name ≡ Ok front
unfolding remaining at_most
walk_is_full {E = E} fault files name front w le so_far =
    let k : MAX_MEMBERS - w.given ≡ 0 = omega arith in
    let none : remaining fault files w ≡ Ok [] = rw k refl in
    sym so_far ∙ ap (with_front front) none ∙ ap (λ (all : Walked). Ok all) (append-nil front)
