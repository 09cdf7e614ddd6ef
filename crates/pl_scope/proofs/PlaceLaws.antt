-- Where the first symbol stands that passes a test, and whether another one passes.
use Rattle.std.proofs.Common.{◌≡◌, ◌≢◌, ℕ, zero, suc, ◌+◌, ◌<◌, ◌≤◌, Bool, true, false, cond, List, [], ◌∷◌, length, Option, Some, None, refl, sym, ap, ◌∙◌, subst, arith, inl, inr}
use Rattle.std.specs.Prelude.{slice_get, position, count_by, ◌==◌, nat_lt, ◌⊎◌}
use Rattle.std.specs.List.{position_or_len}
use Rattle.std.proofs.lemmas.Bool.{cases_Bool, false≢true, ltb-true, ltb-false, ne_eqb}
use Rattle.std.proofs.lemmas.List.Recursion.{is_position_or_len, is_count_by}
use Rattle.std.proofs.lemmas.Option.{slice_get_past}
use Rattle.pl_sym.specs.declared.symbol.Symbol.{Symbol}
use Rattle.pl_scope.specs.Matching.{only}
use Rattle.pl_scope.specs.Probing.{passes, passes_at}

-- ---- the first that passes

abbrev first_place : (Symbol → Bool) → List Symbol → ℕ
first_place p [] = 0
first_place p (x ∷ xs) = cond (p x) 0 (suc (first_place p xs))

first_place_more : (p : Symbol → Bool) (x : Symbol) (xs : List Symbol) → first_place p (x ∷ xs) ≡ cond (p x) 0 (1 + first_place p xs)
first_place_more p x xs = let more : suc (first_place p xs) ≡ 1 + first_place p xs = omega arith in ap (λ (n : ℕ). cond (p x) 0 n) more

first_place_is : (p : Symbol → Bool) (xs : List Symbol) → first_place p xs ≡ position_or_len p xs
first_place_is p xs = is_position_or_len (first_place p) p refl (first_place_more p) xs

position_is : (p : Symbol → Bool) (xs : List Symbol) → position p xs ≡ cond (nat_lt (first_place p xs) (length xs)) (Some (first_place p xs)) None
position_is p xs = ap (λ (n : ℕ). cond (nat_lt n (length xs)) (Some n) None) (sym (first_place_is p xs))

before_by : (p : Symbol → Bool) (x : Symbol) (xs : List Symbol) (i : ℕ) (b : Bool) → p x ≡ b → ((k : ℕ) → k < first_place p xs → passes_at p xs k ≡ false)
    → i < cond b 0 (suc (first_place p xs)) → passes_at p (x ∷ xs) i ≡ false
before_by p x xs i true e more lt = absurd (omega (arith, lt))
before_by p x xs zero false e more lt = e
before_by p x xs (suc i) false e more lt = more i (omega (arith, lt))

before : (p : Symbol → Bool) (xs : List Symbol) (i : ℕ) → i < first_place p xs → passes_at p xs i ≡ false
before p [] i lt = absurd (omega (arith, lt))
before p (x ∷ xs) i lt = before_by p x xs i (p x) refl (before p xs) lt

there_by : (p : Symbol → Bool) (x : Symbol) (xs : List Symbol) (b : Bool) → p x ≡ b → (first_place p xs < length xs → passes_at p xs (first_place p xs) ≡ true)
    → cond b 0 (suc (first_place p xs)) < length (x ∷ xs) → passes_at p (x ∷ xs) (cond b 0 (suc (first_place p xs))) ≡ true
there_by p x xs true e more lt = e
there_by p x xs false e more lt = more (omega (arith, lt))

there : (p : Symbol → Bool) (xs : List Symbol) → first_place p xs < length xs → passes_at p xs (first_place p xs) ≡ true
there p [] lt = absurd (omega (arith, lt))
there p (x ∷ xs) lt = there_by p x xs (p x) refl (there p xs) lt

-- no symbol passes
pub record IsNowhere (p : Symbol → Bool) (xs : List Symbol) : Type 0 where
  pub none : position p xs ≡ None
  pub all : (i : ℕ) → passes_at p xs i ≡ false

-- the first that passes has this index
pub record IsAt (p : Symbol → Bool) (xs : List Symbol) (i : ℕ) : Type 0 where
  pub found : position p xs ≡ Some i
  pub passes : passes_at p xs i ≡ true
  pub before : (k : ℕ) → k < i → passes_at p xs k ≡ false

past : (p : Symbol → Bool) (xs : List Symbol) (i : ℕ) → length xs ≤ i → passes_at p xs i ≡ false
past p xs i le = ap (passes p) (slice_get_past xs i le)

nowhere_at : (p : Symbol → Bool) (xs : List Symbol) → length xs ≤ first_place p xs → (i : ℕ) → passes_at p xs i ≡ false
nowhere_at p xs le i =
    elim (cases_Bool (nat_lt i (first_place p xs))) [
      | inl lt ↦ before p xs i (ltb-true i (first_place p xs) lt)
      | inr ge ↦ past p xs i (omega (arith, le, ltb-false i (first_place p xs) ge))
    ]

pub located : (p : Symbol → Bool) (xs : List Symbol) → IsNowhere p xs ⊎ ((i : ℕ) × IsAt p xs i)
located p xs =
    elim (cases_Bool (nat_lt (first_place p xs) (length xs))) [
      | inl lt ↦ inr (
        first_place p xs,
        record {
          found = position_is p xs ∙ rw lt refl;
          passes = there p xs (ltb-true (first_place p xs) (length xs) lt);
          before = before p xs;
        },
      )
      | inr ge ↦ inl (record {
        none = position_is p xs ∙ rw ge refl;
        all = nowhere_at p xs (ltb-false (first_place p xs) (length xs) ge);
      })
    ]

pub at_found : (p : Symbol → Bool) (xs : List Symbol) (i : ℕ) → position p xs ≡ Some i → IsAt p xs i
at_found p xs i e =
    elim (located p xs) [
      | inl nowhere ↦ let n = nowhere.none in absurd (cc)
      | inr at ↦ let f = at.1.found in let same : at.0 ≡ i = cc in subst (IsAt p xs) same at.1
    ]

pub position_none : (p : Symbol → Bool) (xs : List Symbol) → ((i : ℕ) → passes_at p xs i ≡ false) → position p xs ≡ None
position_none p xs none =
    elim (located p xs) [
      | inl nowhere ↦ nowhere.none
      | inr at ↦ absurd (false≢true (sym (none at.0) ∙ at.1.passes))
    ]

passes_within_by : (p : Symbol → Bool) (xs : List Symbol) (i : ℕ) → passes_at p xs i ≡ true → i < length xs
passes_within_by p [] i e = absurd (false≢true e)
passes_within_by p (x ∷ xs) zero e = omega arith
passes_within_by p (x ∷ xs) (suc i) e = omega (arith, passes_within_by p xs i e)

pub position_within : (p : Symbol → Bool) (xs : List Symbol) (i : ℕ) → position p xs ≡ Some i → i < length xs
position_within p xs i e = passes_within_by p xs i (at_found p xs i e).passes

-- ---- how many pass

abbrev tally : (Symbol → Bool) → List Symbol → ℕ
tally p [] = 0
tally p (x ∷ xs) = cond (p x) (suc (tally p xs)) (tally p xs)

tally_more : (p : Symbol → Bool) (x : Symbol) (xs : List Symbol) → tally p (x ∷ xs) ≡ cond (p x) (1 + tally p xs) (tally p xs)
tally_more p x xs = let more : suc (tally p xs) ≡ 1 + tally p xs = omega arith in ap (λ (n : ℕ). cond (p x) n (tally p xs)) more

tally_is : (p : Symbol → Bool) (xs : List Symbol) → tally p xs ≡ count_by p xs
tally_is p xs = is_count_by (tally p) p refl (tally_more p) xs

none_tally : (p : Symbol → Bool) (xs : List Symbol) → ((i : ℕ) → passes_at p xs i ≡ false) → tally p xs ≡ 0
none_tally p [] none = refl
none_tally p (x ∷ xs) none = let here : p x ≡ false = none 0 in rw here (none_tally p xs (λ i. none (suc i)))

one_tally : (p : Symbol → Bool) (xs : List Symbol) (i : ℕ) → passes_at p xs i ≡ true → ((k : ℕ) → k ≢ i → passes_at p xs k ≡ false) → tally p xs ≡ 1
one_tally p [] i holds others = absurd (false≢true holds)
one_tally p (x ∷ xs) zero holds others =
    let here : p x ≡ true = holds in
    let rest : tally p xs ≡ 0 = none_tally p xs (λ k. let ne : suc k ≢ 0 = omega arith in others (suc k) ne) in
    rw (here, rest) refl
one_tally p (x ∷ xs) (suc i) holds others =
    let first : 0 ≢ suc i = omega arith in
    let here : p x ≡ false = others 0 first in
    rw here (one_tally p xs i holds (λ k ne. let more : suc k ≢ suc i = omega (arith, ne) in others (suc k) more))

grown : (b : Bool) (n m : ℕ) → n ≤ m → n ≤ cond b (suc m) m
grown true n m le = omega arith
grown false n m le = le

some_tally : (p : Symbol → Bool) (xs : List Symbol) (i : ℕ) → passes_at p xs i ≡ true → 1 ≤ tally p xs
some_tally p [] i holds = absurd (false≢true holds)
some_tally p (x ∷ xs) zero holds = let here : p x ≡ true = holds in rw here (omega arith)
some_tally p (x ∷ xs) (suc i) holds = grown (p x) 1 (tally p xs) (some_tally p xs i holds)

two_tally : (p : Symbol → Bool) (xs : List Symbol) (i j : ℕ) → i ≢ j → passes_at p xs i ≡ true → passes_at p xs j ≡ true → 2 ≤ tally p xs
two_tally p [] i j ne a b = absurd (false≢true a)
two_tally p (x ∷ xs) zero zero ne a b = absurd (ne refl)
two_tally p (x ∷ xs) zero (suc j) ne a b = let here : p x ≡ true = a in rw here (omega (arith, some_tally p xs j b))
two_tally p (x ∷ xs) (suc i) zero ne a b = let here : p x ≡ true = b in rw here (omega (arith, some_tally p xs i a))
two_tally p (x ∷ xs) (suc i) (suc j) ne a b = grown (p x) 2 (tally p xs) (two_tally p xs i j (λ e. ne (ap (λ (n : ℕ). suc n) e)) a b)

-- ---- the only one that passes

either_way : (b : Bool) (o : Option ℕ) → cond b o o ≡ o
either_way true o = refl
either_way false o = refl

pub only_none : (p : Symbol → Bool) (xs : List Symbol) → position p xs ≡ None → only p xs ≡ None
only_none p xs e = ap (λ (o : Option ℕ). cond (count_by p xs == 1) o None) e ∙ either_way (count_by p xs == 1) None

pub only_one : (p : Symbol → Bool) (xs : List Symbol) (i : ℕ) → IsAt p xs i → ((k : ℕ) → k ≢ i → passes_at p xs k ≡ false) → only p xs ≡ Some i
only_one p xs i at others =
    let one : count_by p xs ≡ 1 = sym (tally_is p xs) ∙ one_tally p xs i at.passes others in
    ap (λ (n : ℕ). cond (n == 1) (position p xs) None) one ∙ at.found

pub only_many : (p : Symbol → Bool) (xs : List Symbol) (i j : ℕ) → i ≢ j → passes_at p xs i ≡ true → passes_at p xs j ≡ true → only p xs ≡ None
only_many p xs i j ne a b =
    let many : 2 ≤ count_by p xs = subst (λ (n : ℕ). 2 ≤ n) (tally_is p xs) (two_tally p xs i j ne a b) in
    let apart : count_by p xs ≢ 1 = omega (arith, many) in
    ap (λ (c : Bool). cond c (position p xs) None) (ne_eqb (count_by p xs) 1 apart)

only_found : (b : Bool) (o : Option ℕ) (i : ℕ) → cond b o None ≡ Some i → o ≡ Some i
only_found true o i e = e
only_found false o i e = absurd (cc)

pub only_is_first : (p : Symbol → Bool) (xs : List Symbol) (i : ℕ) → only p xs ≡ Some i → position p xs ≡ Some i
only_is_first p xs i e = only_found (count_by p xs == 1) (position p xs) i e

pub only_within : (p : Symbol → Bool) (xs : List Symbol) (i : ℕ) → only p xs ≡ Some i → i < length xs
only_within p xs i e = position_within p xs i (only_is_first p xs i e)

-- ---- tests that agree on all symbols

abbrev pub Agree : (Symbol → Bool) → (Symbol → Bool) → List Symbol → Type 0
Agree p q xs = (i : ℕ) (s : Symbol) → slice_get xs i ≡ Some s → p s ≡ q s

first_place_same : (p q : Symbol → Bool) (xs : List Symbol) → Agree p q xs → first_place p xs ≡ first_place q xs
first_place_same p q [] same = refl
first_place_same p q (x ∷ xs) same = rw (same 0 x refl, first_place_same p q xs (λ i s e. same (suc i) s e)) refl

tally_same : (p q : Symbol → Bool) (xs : List Symbol) → Agree p q xs → tally p xs ≡ tally q xs
tally_same p q [] same = refl
tally_same p q (x ∷ xs) same = rw (same 0 x refl, tally_same p q xs (λ i s e. same (suc i) s e)) refl

pub position_same : (p q : Symbol → Bool) (xs : List Symbol) → Agree p q xs → position p xs ≡ position q xs
position_same p q xs same =
    position_is p xs ∙ ap (λ (n : ℕ). cond (nat_lt n (length xs)) (Some n) None) (first_place_same p q xs same) ∙ sym (position_is q xs)

pub only_same : (p q : Symbol → Bool) (xs : List Symbol) → Agree p q xs → only p xs ≡ only q xs
only_same p q xs same =
    let count : count_by p xs ≡ count_by q xs = sym (tally_is p xs) ∙ tally_same p q xs same ∙ tally_is q xs in
    ap (λ (n : ℕ). cond (n == 1) (position p xs) None) count ∙ ap (λ (o : Option ℕ). cond (count_by q xs == 1) o None) (position_same p q xs same)
