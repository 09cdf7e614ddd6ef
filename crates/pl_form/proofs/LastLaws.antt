-- The last PT_LOAD, found from the last segment on.
use Rattle.std.proofs.Common.{◌≡◌, ℕ, zero, suc, ◌+◌, ◌≤◌, ◌<◌, true, false, List, [], ◌∷◌, length, get_or, drop, Some, None, refl, sym, ap, subst, ◌∙◌, arith, inl, inr, add-one}
use Rattle.std.specs.Prelude.{fold, if◌then◌else◌}
use Rattle.std.specs.List.{list_any}
use Rattle.std.proofs.lemmas.Bool.{cases_Bool, or_from}
use Rattle.pl_elf.specs.Headers.{is_load}
use Rattle.pl_elf.specs.declared.segment.Segment.{Segment}
use Rattle.pl_object.specs.PlaceClauses.{last_load}
use Rattle.pl_form.specs.Program.{last_index, with_index, find_last}
use Rattle.pl_form.proofs.PlaceLaws.{rest_is, rest_none}
use Rattle.pl_form.proofs.FirmLaws.{latest, fold_found}

-- no PT_LOAD from an index on
pub none_more : (ss : List Segment) (i : ℕ) (d : Segment) → i < length ss → is_load (get_or ss i d) ≡ false → list_any is_load (drop (i + 1) ss) ≡ false → list_any is_load (drop i ss) ≡ false
none_more ss i d lt miss rest = ap (list_any is_load) (rest_is ss i d lt) ∙ or_from _ _ miss rest

pub none_at_all : (ss : List Segment) → list_any is_load ss ≡ false → find_last ss ≡ None
unfolding last_load
none_at_all ss none =
    let missed : (if list_any is_load ss then fold latest None ss else None) ≡ None = rw none refl in
    let e : fold latest None ss ≡ None = fold_found None ss ∙ missed in
    ap (with_index ss) e

any_there : (ss : List Segment) (i : ℕ) (d : Segment) → i < length ss → is_load (get_or ss i d) ≡ true → list_any is_load ss ≡ true
any_there [] i d lt hit = absurd (omega (arith, lt))
any_there (s ∷ ss) zero d lt hit = rw hit refl
any_there (s ∷ ss) (suc i) d lt hit = elim (cases_Bool (is_load s)) [
  | inl first ↦ rw first refl
  | inr miss ↦ rw miss (any_there ss i d (omega (arith, lt)) hit)
]

here : (ss : List Segment) (i : ℕ) (d : Segment) → i < length ss → is_load (get_or ss i d) ≡ true → list_any is_load (drop (suc i) ss) ≡ false → (last_index ss ≡ i) × (fold latest None ss ≡ Some (get_or ss i d))
unfolding last_index
here [] i d lt hit rest = absurd (omega (arith, lt))
here (s ∷ ss) zero d lt hit rest = rw rest (refl, fold_found (latest None s) ss ∙ rw (rest, hit) refl)
here (s ∷ ss) (suc i) d lt hit rest =
    let some = any_there ss i d (omega (arith, lt)) hit in
    let r = here ss i d (omega (arith, lt)) hit rest in
    rw some (ap suc r.0, fold_found (latest None s) ss ∙ rw some r.1)

pub last_is_here : (ss : List Segment) (i : ℕ) (d : Segment) → i < length ss → is_load (get_or ss i d) ≡ true → list_any is_load (drop (i + 1) ss) ≡ false → find_last ss ≡ Some (record { index = i; segment = get_or ss i d })
unfolding last_load
last_is_here ss i d lt hit rest =
    let r = here ss i d lt hit (ap (λ (n : ℕ). list_any is_load (drop n ss)) (sym (add-one i)) ∙ rest) in
    ap (with_index ss) r.1 ∙ ap (λ (n : ℕ). Some (record { index = n; segment = get_or ss i d })) r.0

-- ---- a loop from the last segment on

-- there is none from an index on
pub record IsSeeking (ss : List Segment) (i : ℕ) : Type 0 where
  pub within : i ≤ length ss
  pub none : list_any is_load (drop i ss) ≡ false

pub seek_first : (ss : List Segment) (i : ℕ) → i ≡ length ss → IsSeeking ss i
seek_first ss i is = record { within = omega (arith, is); none = ap (list_any is_load) (rest_none ss i (omega (arith, is))) }

pub seek_next : (ss : List Segment) (i j k : ℕ) (d : Segment) → IsSeeking ss i → i ≡ j + 1 → j ≡ k → is_load (get_or ss j d) ≡ false → IsSeeking ss k
seek_next ss i j k d is same to miss =
    subst (λ (n : ℕ). IsSeeking ss n) to
    (record { within = omega (arith, same, is.within); none = none_more ss j d (omega (arith, same, is.within)) miss (subst (λ (n : ℕ). list_any is_load (drop n ss) ≡ false) same is.none) })

pub seek_found : (ss : List Segment) (i j : ℕ) (d : Segment) → IsSeeking ss i → i ≡ j + 1 → is_load (get_or ss j d) ≡ true → find_last ss ≡ Some (record { index = j; segment = get_or ss j d })
seek_found ss i j d is same hit = last_is_here ss j d (omega (arith, same, is.within)) hit (subst (λ (n : ℕ). list_any is_load (drop n ss) ≡ false) same is.none)

pub seek_none : (ss : List Segment) (i : ℕ) → IsSeeking ss i → i ≡ 0 → find_last ss ≡ None
seek_none ss i is same = none_at_all ss (subst (λ (n : ℕ). list_any is_load (drop n ss) ≡ false) same is.none)
