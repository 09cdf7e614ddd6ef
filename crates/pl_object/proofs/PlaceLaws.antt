-- The first version of each index.
use Rattle.std.proofs.Common.{◌≡◌, ℕ, zero, suc, ◌+◌, ◌<◌, Bool, true, false, cond, List, [], ◌∷◌, ◌++◌, length, length-append, take, get_or, set, Option, Some, None, refl, sym, ap, ◌∙◌, arith, inl, inr}
use Rattle.std.specs.Prelude.{slice_get, find, is_none, ◌==◌, ◌&&◌, nat_lt}
use Rattle.std.proofs.lemmas.Bool.{cases_Bool, and_parts, ltb-true, lt-ltb, false≢true, true≢false}
use Rattle.std.proofs.lemmas.Bool.Decides.{eqb_tells}
use Rattle.std.proofs.lemmas.List.{get_or-set_same, get_or-set_other, length-set, length-take, take_more}
use Rattle.pl_ver.specs.declared.constants.TheConstants.{VERSYM_HIDDEN}
use Rattle.pl_ver.specs.declared.versions.VersionName.{VersionName}
use Rattle.pl_object.specs.Keys.{row_at, has_index, noted}

-- ---- one row more

abbrev first_or : Option VersionName → VersionName → Bool → Option VersionName
first_or (Some r) x b = Some r
first_or None x b = cond b (Some x) None

find_push : (p : VersionName → Bool) (xs : List VersionName) (x : VersionName) → find p (xs ++ x ∷ []) ≡ first_or (find p xs) x (p x)
find_push p [] x = refl
find_push p (y ∷ ys) x = elim (cases_Bool (p y)) [
  | inl hit ↦ rw hit refl
  | inr miss ↦ rw miss (find_push p ys x)
]

get_front : (xs : List VersionName) (x : VersionName) (i : ℕ) → i < length xs → slice_get (xs ++ x ∷ []) i ≡ slice_get xs i
get_front [] x i lt = absurd (omega (arith, lt))
get_front (y ∷ ys) x zero lt = refl
get_front (y ∷ ys) x (suc i) lt = get_front ys x i (omega (arith, lt))

get_last : (xs : List VersionName) (x : VersionName) → slice_get (xs ++ x ∷ []) (length xs) ≡ Some x
get_last [] x = refl
get_last (y ∷ ys) x = get_last ys x

get_within : (xs : List VersionName) (i : ℕ) (r : VersionName) → slice_get xs i ≡ Some r → i < length xs
get_within [] i r e = absurd cc
get_within (y ∷ ys) zero r e = omega arith
get_within (y ∷ ys) (suc i) r e = let lt = get_within ys i r e in omega (arith, lt)

-- the places of the first rows: each place is that of a row, and it is the first one's
pub record AreFirst (rows : List VersionName) (places : List (Option ℕ)) : Type 0 where
  pub size : length places ≡ VERSYM_HIDDEN
  pub within : (index place : ℕ) → get_or places index None ≡ Some place → place < length rows
  pub first : (index : ℕ) → index < VERSYM_HIDDEN → row_at rows (get_or places index None) ≡ find (has_index index) rows

pub none_first : (places : List (Option ℕ)) → length places ≡ VERSYM_HIDDEN → ((index : ℕ) → get_or places index None ≡ None) → AreFirst [] places
none_first places size none = record {
  size = size;
  within = λ index place at. absurd (let bad : ◌≡◌ {A = Option ℕ} None (Some place) = sym (none index) ∙ at in cc);
  first = λ index lt. rw (none index) refl;
}

-- a row that is not the first of its index, or has none below the limit
kept : (rows : List VersionName) (x : VersionName) (at : Option ℕ) (index : ℕ) → ((place : ℕ) → at ≡ Some place → place < length rows) → row_at rows at ≡ find (has_index index) rows
    → first_or (find (has_index index) rows) x (has_index index x) ≡ find (has_index index) rows → row_at (rows ++ x ∷ []) at ≡ find (has_index index) (rows ++ x ∷ [])
kept rows x None index within is same = is ∙ sym same ∙ sym (find_push (has_index index) rows x)
kept rows x (Some place) index within is same = get_front rows x place (within place refl) ∙ is ∙ sym same ∙ sym (find_push (has_index index) rows x)

found_stays : (found : Option VersionName) (x : VersionName) (b : Bool) → (found ≡ None → b ≡ false) → first_or found x b ≡ found
found_stays (Some r) x b none = refl
found_stays None x b none = rw (none refl) refl

some_place : (rows : List VersionName) (at : Option ℕ) → is_none at ≡ false → ((place : ℕ) → at ≡ Some place → place < length rows) → row_at rows at ≡ None → ⊥
some_place rows None some within e = true≢false some
some_place rows (Some place) some within e = missing rows place (within place refl) e
  where
    missing : (xs : List VersionName) (i : ℕ) → i < length xs → slice_get xs i ≡ None → ⊥
    missing [] i lt e = absurd (omega (arith, lt))
    missing (y ∷ ys) zero lt e = absurd cc
    missing (y ∷ ys) (suc i) lt e = missing ys i (omega (arith, lt)) e

pub row_kept : (rows : List VersionName) (x : VersionName) (places : List (Option ℕ)) → AreFirst rows places → (x.index < VERSYM_HIDDEN → is_none (get_or places x.index None) ≡ false) → AreFirst (rows ++ x ∷ []) places
row_kept rows x places are other = record {
  size = are.size;
  within = λ index place at. let lt = are.within index place at in omega (arith, lt, length-append rows (x ∷ []));
  first = λ index lt.
      kept rows x (get_or places index None) index (are.within index) (are.first index lt) (found_stays (find (has_index index) rows) x (has_index index x) (λ none. elim (eqb_tells x.index index) [
        | inl e ↦ absurd (some_place rows (get_or places index None) (rw e.1 at (other (omega (arith, e.1, lt)))) (are.within index) (are.first index lt ∙ none))
        | inr e ↦ e.0
      ]));
}

pub row_noted : (rows : List VersionName) (x : VersionName) (places : List (Option ℕ)) → AreFirst rows places → x.index < VERSYM_HIDDEN → get_or places x.index None ≡ None → AreFirst (rows ++ x ∷ []) (set places x.index (Some (length rows)))
row_noted rows x places are below none = record {
  size = length-set places x.index (Some (length rows)) ∙ are.size;
  within = λ index place at. elim (eqb_tells index x.index) [
    | inl e ↦
        let here : get_or (set places x.index (Some (length rows))) index None ≡ Some (length rows) = rw e.1 (get_or-set_same places x.index (Some (length rows)) None (omega (arith, below, are.size))) in
        let same : length rows ≡ place = same_place (length rows) place (sym here ∙ at) in
        omega (arith, same, length-append rows (x ∷ []))
    | inr e ↦
        let lt = are.within index place (sym (get_or-set_other places x.index index (Some (length rows)) None e.1) ∙ at) in
        omega (arith, lt, length-append rows (x ∷ []))
  ];
  first = λ index lt. elim (eqb_tells index x.index) [
    | inl e ↦
        let here : get_or (set places x.index (Some (length rows))) index None ≡ Some (length rows) = rw e.1 (get_or-set_same places x.index (Some (length rows)) None (omega (arith, below, are.size))) in
        let old : find (has_index index) rows ≡ None = sym (are.first index lt) ∙ rw e.1 (ap (row_at rows) none) in
        let hit : has_index index x ≡ true = rw e.1 (same_number x.index) in
        rw here (get_last rows x ∙ sym (find_push (has_index index) rows x ∙ rw (old, hit) refl))
    | inr e ↦
        let same : get_or (set places x.index (Some (length rows))) index None ≡ get_or places index None = get_or-set_other places x.index index (Some (length rows)) None e.1 in
        rw same (kept rows x (get_or places index None) index (are.within index) (are.first index lt)
        (found_stays (find (has_index index) rows) x (has_index index x) (λ none. elim (eqb_tells x.index index) [
          | inl f ↦ absurd (e.1 (sym f.1))
          | inr f ↦ f.0
        ])))
  ];
}
  where
    same_place : (m n : ℕ) → ◌≡◌ {A = Option ℕ} (Some m) (Some n) → m ≡ n
    same_place m n e = cc

    same_number : (n : ℕ) → (n == n) ≡ true
    same_number n = elim (eqb_tells n n) [ inl e ↦ e.0 | inr e ↦ absurd (e.1 refl) ]

none_is : (at : Option ℕ) → is_none at ≡ true → at ≡ None
none_is None h = refl
none_is (Some place) h = absurd (false≢true h)

pub row_more : (rows : List VersionName) (x : VersionName) (i : ℕ) (places : List (Option ℕ)) → i < length rows → x ≡ get_or rows i x → AreFirst (take i rows) places → AreFirst (take (i + 1) rows) (noted x.index i places)
row_more rows x i places lt is are =
    let size : length (take i rows) ≡ i = omega (arith, length-take i rows, lt) in
    let more : take (i + 1) rows ≡ take i rows ++ x ∷ [] = take_more rows i x lt ∙ ap (λ (r : VersionName). take i rows ++ r ∷ []) (sym is) in
    rw more (elim (cases_Bool (nat_lt x.index (length places) && is_none (get_or places x.index None))) [
      | inl hit ↦
          let p = and_parts (nat_lt x.index (length places)) (is_none (get_or places x.index None)) hit in
          let below : x.index < VERSYM_HIDDEN = omega (arith, ltb-true x.index (length places) p.0, are.size) in
          let noted_so : AreFirst (take i rows ++ x ∷ []) (set places x.index (Some (length (take i rows)))) = row_noted (take i rows) x places are below (none_is (get_or places x.index None) p.1) in
          rw hit (rw size at noted_so)
      | inr miss ↦ rw miss (row_kept (take i rows) x places are (λ below. not_none (nat_lt x.index (length places)) (is_none (get_or places x.index None)) (lt-ltb x.index (length places) (omega (arith, below, are.size))) miss))
    ])
  where
    not_none : (a b : Bool) → a ≡ true → (a && b) ≡ false → b ≡ false
    not_none true b is miss = miss
    not_none false b is miss = absurd (false≢true is)

-- ---- no places

pub none_pushed : (places : List (Option ℕ)) (i : ℕ) → ((k : ℕ) → ◌≡◌ {A = Option ℕ} (get_or places k None) None) → ◌≡◌ {A = Option ℕ} (get_or (places ++ None ∷ []) i None) None
none_pushed [] zero none = refl
none_pushed [] (suc i) none = refl
none_pushed (p ∷ ps) zero none = none zero
none_pushed (p ∷ ps) (suc i) none = none_pushed ps i (λ k. none (suc k))
