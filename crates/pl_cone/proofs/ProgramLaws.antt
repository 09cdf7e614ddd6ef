-- Whether the members of a program's walk link, by those of its relocations that may have no value.
use Rattle.std.proofs.Common.{◌≡◌, ℕ, ◌+◌, ◌<◌, List, [], ◌∷◌, ◌++◌, length, drop, map, Option, Some, Result, Ok, Err, refl, sym, ap, ◌∙◌, arith, inl, inr}
use Rattle.std.specs.Prelude.{slice_get}
use Rattle.std.proofs.lemmas.Option.{slice_get_cases}
use Rattle.pl_base.specs.Answers.{◌>>=◌, because}
use Rattle.pl_base.specs.Each.{each}
use Rattle.pl_object.specs.declared.object.Object.{Object}
use Rattle.pl_scope.specs.Scope.{objects}
use Rattle.pl_scope.specs.Walk.{Walked}
use Rattle.pl_scope.proofs.MemberLaws.{length_objects}
use Rattle.pl_tls.specs.Layout.{offsets}
use Rattle.pl_tls.specs.declared.fault.TlsFault.{TlsFault}
use Rattle.pl_tls.specs.declared.module.Module.{Module}
use Rattle.pl_value.specs.Meanings.{Row, meaning, meanings, row, rows_from}
use Rattle.pl_value.specs.Values.{relocations_in}
use Rattle.pl_value.specs.declared.fault.LinkFault.{LinkFault}
use Rattle.pl_value.specs.declared.meaning.Meaning.{Meaning}
use Rattle.pl_value.proofs.CollectingLaws.{rows_more}
use Rattle.pl_cone.specs.Candidates.{blocks, check_links, of_link, resolved, zeros}
use Rattle.pl_cone.specs.Links.{first_rows, others_have, rows_have_in}
use Rattle.pl_cone.specs.Skips.{of_tls}
use Rattle.pl_cone.specs.declared.scopes.WalkLinking.{WalkLinking}
use Rattle.pl_cone.proofs.ValueLaws.{each_has, have_more, have_stops}

-- ---- the first member, and the others

abbrev pub first_of : List Object → List Row
first_of os = map (row 0) (relocations_in (slice_get os 0))

abbrev pub others_of : List Object → List Row
others_of os = rows_from 1 (drop 1 os)

parts_at : (os : List Object) (o : Object) → slice_get os 0 ≡ Some o → rows_from 0 os ≡ first_of os ++ others_of os
parts_at os o at = rows_more os 0 o at ∙ ap (λ (x : Option Object). map (row 0) (relocations_in x) ++ others_of os) (sym at)

pub parts_are : (os : List Object) → 0 < length os → rows_from 0 os ≡ first_of os ++ others_of os
parts_are os some = elim (slice_get_cases os 0).1 [
  | inl p ↦ parts_at os p.0 p.2
  | inr none ↦ absurd (omega (arith, some, none.0))
]

pub all_by_others : (f : Row → Result Meaning LinkFault) (os : List Object) → 0 < length os → each_has f (first_of os) ≡ Ok tt → each_has f (rows_from 0 os) ≡ each_has f (others_of os)
all_by_others f os some first = ap (each_has f) (parts_are os some) ∙ have_more f (first_of os) (others_of os) first

pub all_by_first : (f : Row → Result Meaning LinkFault) (os : List Object) (fault : LinkFault) → 0 < length os → ◌≡◌ {A = Result (Unit {0}) LinkFault} (each_has f (first_of os)) (Err fault) → each_has f (rows_from 0 os) ≡ Err fault
all_by_first f os fault some first = ap (each_has f) (parts_are os some) ∙ have_stops f (first_of os) (others_of os) fault first

-- ---- the whole

because_done : {E F : Type 0} (fault : E → F) (r : Result (List Meaning) E) → ◌≡◌ {A = Result (Unit {0}) F} (because fault r >>= λ gs. Ok tt) (because fault (r >>= λ gs. Ok tt))
because_done fault (Ok gs) = refl
because_done fault (Err e) = refl

-- by the values of all relocations
pub resolved_is : (own : Walked) (modules : List Module) (r : Result (Unit {0}) LinkFault) → each_has (meaning (objects own) (zeros own) modules) (rows_from 0 (objects own)) ≡ r → resolved own modules ≡ because (of_link own) r
unfolding resolved meanings
resolved_is own modules r is = because_done (of_link own) (each (meaning (objects own) (zeros own) modules) (rows_from 0 (objects own))) ∙ ap (because (of_link own)) is

pub linked_is : (own : Walked) (modules : List Module) → offsets (blocks own) ≡ Ok modules → check_links own ≡ resolved own modules
unfolding check_links
linked_is own modules is = ap (λ (r : Result (List Module) TlsFault). because of_tls r >>= λ ms. resolved own ms) is

pub linked_stops : (own : Walked) (e : TlsFault) → offsets (blocks own) ≡ Err e → check_links own ≡ Err (of_tls e)
unfolding check_links
linked_stops own e is = ap (λ (r : Result (List Module) TlsFault). because of_tls r >>= λ ms. resolved own ms) is

-- ---- by a walk that is being linked

module _ (own : Walked) (l : WalkLinking) (scope : l.scope.now ≡ own) (places : l.places.now ≡ zeros own) (tls : offsets (blocks own) ≡ Ok l.modules.now) (some : 0 < length own) where
  abbrev f : Row → Result Meaning LinkFault
  f = meaning (objects own) (zeros own) l.modules.now

  first_same : rows_have_in l (first_rows l) ≡ each_has f (first_of (objects own))
  first_same =
      ap (λ (w : Walked). each_has (meaning (objects w) l.places.now l.modules.now) (first_of (objects w))) scope
      ∙ ap (λ (ps : List ℕ). each_has (meaning (objects own) ps l.modules.now) (first_of (objects own))) places

  others_same : others_have l ≡ each_has f (others_of (objects own))
  others_same =
      ap (λ (w : Walked). each_has (meaning (objects w) l.places.now l.modules.now) (others_of (objects w))) scope
      ∙ ap (λ (ps : List ℕ). each_has (meaning (objects own) ps l.modules.now) (others_of (objects own))) places

  inside : 0 < length (objects own)
  inside = omega (arith, some, length_objects own)

  linked_as : (r : Result (Unit {0}) LinkFault) → each_has f (rows_from 0 (objects own)) ≡ r → check_links own ≡ because (of_link own) r
  linked_as r is = linked_is own l.modules.now tls ∙ resolved_is own l.modules.now r is

  -- the first member has the first refusal
  pub first_refuses : (fault : LinkFault) → ◌≡◌ {A = Result (Unit {0}) LinkFault} (rows_have_in l (first_rows l)) (Err fault) → check_links own ≡ Err (of_link own fault)
  first_refuses fault is = linked_as (Err fault) (all_by_first f (objects own) fault inside (sym first_same ∙ is))

  -- another has it, or none
  pub others_decide : (r : Result (Unit {0}) LinkFault) → rows_have_in l (first_rows l) ≡ Ok tt → others_have l ≡ r → check_links own ≡ because (of_link own) r
  others_decide r first is = linked_as r (all_by_others f (objects own) inside (sym first_same ∙ first) ∙ (sym others_same ∙ is))
