-- What each walk keeps: distinct names, few of them, and each needed name among them.
use Rattle.std.proofs.Common.{◌≡◌, ℕ, zero, suc, ◌+◌, ◌≤◌, List, [], ◌∷◌, ◌++◌, length, Option, Some, None, Result, Ok, refl, sym, ap, subst, ◌∙◌, arith, inl, inr, append_assoc}
use Rattle.std.specs.Prelude.{slice_get}
use Rattle.std.specs.List.{IsDistinct}
use Rattle.std.specs.Option.{ok_or}
use Rattle.std.specs.Str.{bytes_eq}
use Rattle.std.proofs.lemmas.Bool.{cases_Bool}
use Rattle.std.proofs.lemmas.List.{length-append}
use Rattle.std.proofs.lemmas.Map.Keys.{IsDistinct-push}
use Rattle.pl_scope.specs.declared.fault.WalkFault.TheVariants.{NotThere}
use Rattle.pl_object.specs.declared.object.Object.{Object}
use Rattle.pl_scope.specs.declared.fault.WalkFault.{WalkFault}
use Rattle.pl_scope.specs.Walk.{Walked, walk, at_most, begun, object_of, itself, added}
use Rattle.pl_scope.specs.Members.{names, has, told, WalksAreWalks, WalksAreClosed, MembersWalkWithin, MembersTellWalks}
use Rattle.pl_scope.specs.declared.constants.TheConstants.{MAX_MEMBERS}
use Rattle.pl_scope.specs.Walking.{Walking}
use Rattle.pl_base.specs.Each.{run}
use Rattle.pl_scope.proofs.NameLaws.{has_flip, has_at, eq_laws}
use Rattle.pl_scope.proofs.StepLaws.{same_ok, bind_ok, step_cases, nothing_left, Entered, entered_is, Grown, grown, added_cases, walk_short, walk_local, walk_most}
use Rattle.pl_scope.proofs.ClosureLaws.{WalkTells, walk_is, walk_told, MemberWalk, member_walk, ToldWalk, member_told, at_end, at_next}

-- ---- names that are added stay distinct

added_distinct : (ns : List (List ℕ)) (n : List ℕ) (ms : List (List ℕ)) → added ns n ≡ Ok ms → IsDistinct bytes_eq ns → IsDistinct bytes_eq ms
unfolding added
added_distinct ns n ms h d =
    elim (added_cases ns n ms h) [
      | inl c ↦ rw c.1 d
      | inr c ↦ elim (cases_Bool (has ns n)) [
        | inl t ↦ rw (← same_ok ns ms (rw t at h)) d
        | inr t ↦ rw c.1 (IsDistinct-push eq_laws ns n d (has_flip n ns ∙ t))
      ]
    ]

run_distinct : (needed ns ms : List (List ℕ)) → run added ns needed ≡ Ok ms → IsDistinct bytes_eq ns → IsDistinct bytes_eq ms
unfolding run
run_distinct [] ns ms h d = rw (← same_ok ns ms h) d
run_distinct (x ∷ needed) ns ms h d =
    let a : (ks : List (List ℕ)) × (added ns x ≡ Ok ks) × (run added ks needed ≡ Ok ms) = bind_ok (added ns x) (λ ks. run added ks needed) ms h in
    run_distinct needed a.0 ms a.2 (added_distinct ns x a.0 a.1 d)

-- ---- the names of a walk are those that were appended

distinct_most : {E : Type 0} (fault : WalkFault → E) (files : List ℕ → Result Object E) (most : ℕ) (w : Walking) (ws : Walked) (front todo : List (List ℕ)) → at_most fault files most w ≡ Ok ws → w.names ≡ front ++ todo → w.given ≡ length front → length w.names ≤ MAX_MEMBERS → most + w.given ≡ MAX_MEMBERS
    → IsDistinct bytes_eq w.names → IsDistinct bytes_eq (front ++ names ws)
distinct_most fault files zero w ws front todo h is given few sum d =
    let e : ws ≡ [] = nothing_left fault files w ws h in
    let le : length (front ++ todo) ≤ length front = rw (← is) (omega arith) in
    let none : todo ≡ [] = empty todo (omega (arith, le, length-append front todo)) in
    rw e (subst (λ (z : List (List ℕ)). IsDistinct bytes_eq (front ++ z)) none (subst (λ (z : List (List ℕ)). IsDistinct bytes_eq z) is d))
  where
    empty : (xs : List (List ℕ)) → length xs ≡ 0 → xs ≡ []
    empty [] h = refl
    empty (x ∷ xs) h = absurd (omega (arith, h))
distinct_most fault files (suc most) w ws front todo h is given few sum d =
    elim (step_cases fault files most w ws h) [
      | inl c ↦
          let none : todo ≡ [] = at_end front todo (sym (ap (λ (z : List (List ℕ)). slice_get z w.given) is ∙ ap (slice_get (front ++ todo)) given) ∙ c.0) in
          rw c.1 (subst (λ (z : List (List ℕ)). IsDistinct bytes_eq (front ++ z)) none (subst (λ (z : List (List ℕ)). IsDistinct bytes_eq z) is d))
      | inr s ↦
          let t : (rest : List (List ℕ)) × (todo ≡ s.name ∷ rest) = at_next front todo s.name (sym (ap (λ (z : List (List ℕ)). slice_get z w.given) is ∙ ap (slice_get (front ++ todo)) given) ∙ s.wanted) in
          let en : Entered w s.name s.object s.after = entered_is w s.name s.object s.after s.enters in
          let g : Grown w.names s.object.needed en.names = grown s.object.needed w.names en.names en.runs in
          let names_are : s.after.names ≡ (front ++ s.name ∷ []) ++ (t.0 ++ g.more) =
          ap (λ (v : Walking). v.names) en.is ∙ (g.is ∙ (ap (λ (z : List (List ℕ)). z ++ g.more) (is ∙ ap (λ (z : List (List ℕ)). front ++ z) t.1) ∙ regroup front s.name t.0 g.more)) in
          let given_is : s.after.given ≡ length (front ++ s.name ∷ []) = ap (λ (v : Walking). v.given) en.is ∙ omega (arith, given, length-append front (s.name ∷ [])) in
          let d' : IsDistinct bytes_eq s.after.names = subst (λ (v : Walking). IsDistinct bytes_eq v.names) (sym en.is) (run_distinct s.object.needed w.names en.names en.runs d) in
          let few' : length s.after.names ≤ MAX_MEMBERS = subst (λ (v : Walking). length v.names ≤ MAX_MEMBERS) (sym en.is) (g.few few) in
          let sum' : most + s.after.given ≡ MAX_MEMBERS = ap (λ (v : Walking). most + v.given) en.is ∙ omega (arith, sum) in
          let rest : IsDistinct bytes_eq ((front ++ s.name ∷ []) ++ names s.rest) = distinct_most fault files most s.after s.rest (front ++ s.name ∷ []) (t.0 ++ g.more) s.goes names_are given_is few' sum' d' in
          rw s.is (subst (λ (z : List (List ℕ)). IsDistinct bytes_eq z) (append_assoc front (s.name ∷ []) (names s.rest)) rest)
    ]
  where
    regroup : (front : List (List ℕ)) (n : List ℕ) (rest more : List (List ℕ)) → (front ++ n ∷ rest) ++ more ≡ (front ++ n ∷ []) ++ (rest ++ more)
    regroup front n rest more = simp append_assoc

-- the limit's number, for the crates above
pub limit_is : MAX_MEMBERS ≡ 256
unfolding MAX_MEMBERS
limit_is = refl

some_members : 1 ≤ MAX_MEMBERS
unfolding MAX_MEMBERS
some_members = omega arith

pub walk_distinct : {E : Type 0} (fault : WalkFault → E) (files : List ℕ → Result Object E) (n : List ℕ) (ws : Walked) → walk fault files n ≡ Ok ws → IsDistinct bytes_eq (names ws)
unfolding IsDistinct
walk_distinct fault files n ws h = distinct_most fault files MAX_MEMBERS (begun n) ws [] (n ∷ []) (sym (walk_most fault files n) ∙ h) refl refl some_members (omega arith) (tt, tt)

-- ---- each member bears the object of its name

at_most_files : {E : Type 0} (fault : WalkFault → E) (files : List ℕ → Result Object E) (most : ℕ) (w : Walking) (ws : Walked) → at_most fault files most w ≡ Ok ws → (i : ℕ) (p : List ℕ × Object) → slice_get ws i ≡ Some p → files p.0 ≡ Ok p.1
at_most_files fault files zero w ws h i p at = absurd (none_some p (sym (ap (λ (z : Walked). slice_get z i) (nothing_left fault files w ws h)) ∙ at))
  where
    none_some : (p : List ℕ × Object) → None ≡ Some p → ⊥
    none_some p h = cc
at_most_files {E = E} fault files (suc most) w ws h i p at =
    elim (step_cases fault files most w ws h) [
      | inl c ↦ absurd (none_some p (sym (ap (λ (z : Walked). slice_get z i) c.1) ∙ at))
      | inr s ↦ at_place i s.name s.object s.rest s.file (λ k. at_most_files fault files most s.after s.rest s.goes k p) (sym (ap (λ (z : Walked). slice_get z i) s.is) ∙ at)
    ]
  where
    none_some : (p : List ℕ × Object) → None ≡ Some p → ⊥
    none_some p h = cc

    same_some : (p q : List ℕ × Object) → Some p ≡ Some q → p ≡ q
    same_some p q h = cc

    at_place : (i : ℕ) (n : List ℕ) (o : Object) (rest : Walked) → files n ≡ Ok o → ((k : ℕ) → slice_get rest k ≡ Some p → files p.0 ≡ Ok p.1) → slice_get ((n, o) ∷ rest) i ≡ Some p → files p.0 ≡ Ok p.1
    at_place zero n o rest f later at = subst (λ (q : List ℕ × Object). files q.0 ≡ Ok q.1) (same_some (n, o) p at) f
    at_place (suc i) n o rest f later at = later i at

pub member_file : {E : Type 0} (fault : WalkFault → E) (files : List ℕ → Result Object E) (n : List ℕ) (ws : Walked) → walk fault files n ≡ Ok ws → (i : ℕ) (p : List ℕ × Object) → slice_get ws i ≡ Some p → files p.0 ≡ Ok p.1
member_file fault files n ws h = at_most_files fault files MAX_MEMBERS (begun n) ws (sym (walk_most fault files n) ∙ h)

-- ---- the laws

name_at : (ws : Walked) (i : ℕ) (p : List ℕ × Object) → slice_get ws i ≡ Some p → slice_get (names ws) i ≡ Some p.0
name_at [] i p h = absurd (none_some p h)
  where
    none_some : (p : List ℕ × Object) → None ≡ Some p → ⊥
    none_some p h = cc
name_at (q ∷ ws) zero p h = ap (λ (r : List ℕ × Object). Some r.0) (same_some q p h)
  where
    same_some : (q p : List ℕ × Object) → Some q ≡ Some p → q ≡ p
    same_some q p h = cc
name_at (q ∷ ws) (suc i) p h = name_at ws i p h

pub walk_is_walk : {E : Type 0} → WalksAreWalks E
walk_is_walk fault files n ws h = record {
  objects = told ws;
  name = n;
  walks = walk_local fault itself files (object_of (told ws)) n ws h (λ k o s f. there (told ws k) o k (walk_told fault files n ws h k o s f));
}
  where
    there : (x : Option Object) (o : Object) (k : List ℕ) → x ≡ Some o → ok_or x (NotThere k) ≡ Ok o
    there x o k h = rw h refl

pub walk_is_closed : WalksAreClosed
walk_is_closed ws w =
    let tells : WalkTells (object_of w.objects) w.name ws = walk_is itself (object_of w.objects) w.name ws w.walks in
    record {
      few = walk_few ws (walk_short itself (object_of w.objects) w.name ws w.walks);
      distinct = walk_distinct itself (object_of w.objects) w.name ws w.walks;
      needs = λ i p at n t. tells.needs p.0 n p.1 (has_at (names ws) i p.0 (name_at ws i p at)) (member_file itself (object_of w.objects) w.name ws w.walks i p at) t;
    }
  where
    walk_few : (ws : Walked) → length (names ws) ≤ MAX_MEMBERS → length ws ≤ MAX_MEMBERS
    walk_few ws h = rw (← length_names ws) h
      where
        length_names : (ws : Walked) → length (names ws) ≡ length ws
        length_names [] = refl
        length_names (p ∷ ws) = ap suc (length_names ws)

pub member_walk_within : {E : Type 0} → MembersWalkWithin E
member_walk_within fault files n m ws h linked t =
    let w : MemberWalk fault files (names ws) m = member_walk fault files n m ws h linked t in
    (w.walked, w.walks, w.subset)

pub member_tells_walk : {E : Type 0} → MembersTellWalks E
member_tells_walk fault files n m ws h linked t =
    let w : ToldWalk fault files ws m = member_told fault files n m ws h linked t in
    (w.inner, w.walks, w.over)
