-- The members of a walk that a folder's files made, whether the folder tells its files or not.
use Rattle.std.proofs.Common.{◌≡◌, ◌≤◌, ℕ, List, [], ◌∷◌, ◌++◌, length, false, Some, None, Result, Ok, refl, sym, ap, subst, ◌∙◌, arith, inl, inr, append_assoc}
use Rattle.std.specs.Prelude.{slice_get}
use Rattle.std.specs.List.{AllByRecursion, IsDistinct}
use Rattle.std.specs.Str.{bytes_eq}
use Rattle.std.proofs.lemmas.Bool.{cases_Bool}
use Rattle.std.proofs.lemmas.List.{append-nil, length-append}
use Rattle.std.proofs.lemmas.Map.Keys.{IsDistinct-head, IsDistinct-push, IsDistinct-tail}
use Rattle.pl_base.specs.Each.{run}
use Rattle.pl_object.specs.declared.object.Object.{Object}
use Rattle.pl_scope.specs.Members.{IsWalk, has, names, told}
use Rattle.pl_scope.specs.Walk.{Walked, IsUnderWay, added, begun, give, itself, object_of, of_wanted}
use Rattle.pl_scope.specs.Walking.{IsWalking, Walking, wants}
use Rattle.pl_scope.specs.declared.constants.TheConstants.{MAX_MEMBERS}
use Rattle.pl_scope.specs.declared.fault.WalkFault.{WalkFault}
use Rattle.pl_loader.proofs.LoadLaws.{wanted_below}
use Rattle.pl_scope.proofs.ClosureLaws.{at_end, at_next}
use Rattle.pl_scope.proofs.NameLaws.{eq_laws, eq_refl, has_flip}
use Rattle.pl_scope.proofs.StepLaws.{Entered, Grown, added_cases, bind_ok, entered_is, grown, same_ok}
use Rattle.pl_scope.proofs.WalkLaws.{walk_begins, walk_ends, walk_goes_on}

-- ---- names that are added stay distinct

added_distinct : (ns : List (List ℕ)) (n : List ℕ) (ms : List (List ℕ)) → added ns n ≡ Ok ms → IsDistinct bytes_eq ns → IsDistinct bytes_eq ms
unfolding added
added_distinct ns n ms h d =
    elim (added_cases ns n ms h) [
      | inl c ↦ rw c.1 d
      | inr c ↦ elim (cases_Bool (has ns n)) [
        | inl t ↦ rw (← same_ok ns ms (rw t at h)) d
        | inr t ↦ rw c.1 (IsDistinct-push eq_laws ns n d (has_flip n ns ∙ t))
      ]
    ]

run_distinct : (needed ns ms : List (List ℕ)) → run added ns needed ≡ Ok ms → IsDistinct bytes_eq ns → IsDistinct bytes_eq ms
unfolding run
run_distinct [] ns ms h d = rw (← same_ok ns ms h) d
run_distinct (x ∷ needed) ns ms h d =
    let a : (ks : List (List ℕ)) × (added ns x ≡ Ok ks) × (run added ks needed ≡ Ok ms) = bind_ok (added ns x) (λ ks. run added ks needed) ms h in
    run_distinct needed a.0 ms a.2 (added_distinct ns x a.0 a.1 d)

-- ---- members tell their objects by their names

-- these objects are those of the names
abbrev pub Agrees : (List ℕ → Result Object WalkFault) → Walked → Type 0
Agrees files ws = AllByRecursion (λ p. files p.0 ≡ Ok p.1) ws

agrees_push : (files : List ℕ → Result Object WalkFault) (ws : Walked) (p : List ℕ × Object) → Agrees files (ws ++ p ∷ []) → Agrees files ws × (files p.0 ≡ Ok p.1)
agrees_push files [] p agrees = (tt, agrees.0)
agrees_push files (q ∷ ws) p agrees = let rest = agrees_push files ws p agrees.1 in ((agrees.0, rest.0), rest.1)

told_later : (p : List ℕ × Object) (all ws : Walked) → AllByRecursion (λ m. bytes_eq p.0 m ≡ false) (names ws) → Agrees (object_of (told all)) ws → Agrees (object_of (told (p ∷ all))) ws
unfolding told
told_later p all [] other agrees = tt
told_later p all (q ∷ ws) other agrees = (rw other.0 agrees.0, told_later p all ws other.1 agrees.1)

told_all : (ws : Walked) → IsDistinct bytes_eq (names ws) → Agrees (object_of (told ws)) ws
unfolding told
told_all [] distinct = tt
told_all (p ∷ ws) distinct =
    (rw (eq_refl p.0) refl, told_later p ws ws (IsDistinct-head bytes_eq p.0 (names ws) distinct) (told_all ws (IsDistinct-tail bytes_eq p.0 (names ws) distinct)))

-- ---- a walk that is under way

-- members, and how far their walk has come: they are the first of its names, which are distinct; and it is the walk over all objects that are theirs
pub record Walks (name : List ℕ) (ws : Walked) (w : Walking) : Type 0 where
  pub rest : List (List ℕ)
  pub first : w.names ≡ names ws ++ rest
  pub given : w.given ≡ length (names ws)
  pub distinct : IsDistinct bytes_eq w.names
  pub goes : (files : List ℕ → Result Object WalkFault) → Agrees files ws → IsUnderWay itself files name ws w

pub walks_begin : (name : List ℕ) → Walks name [] (begun name)
unfolding IsDistinct
walks_begin name = record { rest = name ∷ []; first = refl; given = refl; distinct = (tt, tt); goes = λ files agrees. walk_begins itself files name }

names_push : (ws : Walked) (p : List ℕ × Object) → names (ws ++ p ∷ []) ≡ names ws ++ p.0 ∷ []
names_push [] p = refl
names_push (q ∷ ws) p = ap (λ (ns : List (List ℕ)). q.0 ∷ ns) (names_push ws p)

regroup : (front : List (List ℕ)) (n : List ℕ) (rest more : List (List ℕ)) → (front ++ n ∷ rest) ++ more ≡ (front ++ n ∷ []) ++ (rest ++ more)
regroup front n rest more = simp append_assoc

module _ (name : List ℕ) (ws : Walked) (w v : Walking) (n : List ℕ) (o : Object) where
  pub walks_on : IsWalking w → wants w ≡ Some n → give w o ≡ Ok v → Walks name ws w → Walks name (ws ++ (n, o) ∷ []) v
  walks_on walking is went walks =
      let e : Entered w n o v = entered_is w n o v (sym (ap (of_wanted w o) is) ∙ went) in
      let g : Grown w.names o.needed e.names = grown o.needed w.names e.names e.runs in
      let at : slice_get (names ws ++ walks.rest) (length (names ws)) ≡ Some n = sym (ap (λ (ns : List (List ℕ)). slice_get ns w.given) walks.first ∙ ap (slice_get (names ws ++ walks.rest)) walks.given) ∙ is in
      let t : (rest : List (List ℕ)) × (walks.rest ≡ n ∷ rest) = at_next (names ws) walks.rest n at in
      let pushed : names (ws ++ (n, o) ∷ []) ≡ names ws ++ n ∷ [] = names_push ws (n, o) in
      let given : w.given ≡ length (names ws) = walks.given in
      record {
        rest = t.0 ++ g.more;
        first = ap (λ (u : Walking). u.names) e.is ∙ g.is ∙ ap (λ (z : List (List ℕ)). z ++ g.more) (walks.first ∙ ap (λ (z : List (List ℕ)). names ws ++ z) t.1) ∙ regroup (names ws) n t.0 g.more
            ∙ ap (λ (z : List (List ℕ)). z ++ (t.0 ++ g.more)) (sym pushed);
        given = ap (λ (u : Walking). u.given) e.is ∙ omega (arith, given, length-append (names ws) (n ∷ [])) ∙ ap length (sym pushed);
        distinct = subst (λ (u : Walking). IsDistinct bytes_eq u.names) (sym e.is) (run_distinct o.needed w.names e.names e.runs walks.distinct);
        goes = λ files agrees. let parts = agrees_push files ws (n, o) agrees in
            walk_goes_on itself files name ws w v n o (wanted_below w n walking is) is parts.1 went (walks.goes files parts.0);
      }

module _ (name : List ℕ) (ws : Walked) (w : Walking) (walks : Walks name ws w) where
  pub walks_few : IsWalking w → length (names ws) ≤ MAX_MEMBERS
  walks_few walking =
      let within = walking.within in
      let few = walking.few in
      let given = walks.given in
      omega (arith, within, few, given)

  -- no name is wanted
  pub walks_end : wants w ≡ None → IsWalk ws
  walks_end is =
      let none : walks.rest ≡ [] = at_end (names ws) walks.rest (sym (ap (λ (ns : List (List ℕ)). slice_get ns w.given) walks.first ∙ ap (slice_get (names ws ++ walks.rest)) walks.given) ∙ is) in
      let all : w.names ≡ names ws = walks.first ∙ ap (λ (z : List (List ℕ)). names ws ++ z) none ∙ append-nil (names ws) in
      let agrees = told_all ws (subst (IsDistinct bytes_eq) all walks.distinct) in
      record { objects = told ws; name = name; walks = walk_ends itself (object_of (told ws)) name ws w is (walks.goes (object_of (told ws)) agrees) }
