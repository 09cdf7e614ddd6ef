-- Rows in the order of their keys: two that meet a test, which have one key, stand in one run.
use Rattle.std.proofs.Common.{◌≡◌, ℕ, zero, suc, ◌+◌, ◌<◌, ◌≤◌, Bool, true, false, ◌||◌, List, [], ◌∷◌, length, map, get_or, Option, Some, refl, sym, ap, ◌∙◌, arith, inl, inr}
use Rattle.std.specs.Prelude.{slice_get}
use Rattle.std.specs.List.{list_any, range_with_len}
use Rattle.std.specs.List.Sorted.{IsPermutation, IsNonDecreasingBy}
use Rattle.std.proofs.lemmas.Bool.{cases_Bool}
use Rattle.std.proofs.lemmas.Bool.Decides.{eqb_tells}
use Rattle.pl_base.specs.Pairs.{any_pair}
use Rattle.pl_base.proofs.PairLaws.{any_pair_permuted}
use Rattle.pl_object.specs.Runs.{meets_run, any_run}

module _ {X : Type 0} (p : X → X → Bool) (key : X → ℕ) where
  abbrev Above : ℕ → List X → Type 0
  Above n [] = Unit {0}
  Above n (x ∷ xs) = (n ≤ key x) × Above n xs

  abbrev Rising : List X → Type 0
  Rising [] = Unit {0}
  Rising (x ∷ xs) = Above (key x) xs × Rising xs

  above_by : (xs : List X) (n : ℕ) → ((k : ℕ) (d : X) → k < length xs → n ≤ key (get_or xs k d)) → Above n xs
  above_by [] n h = tt
  above_by (x ∷ xs) n h = (h 0 x (omega arith), above_by xs n (λ k d lt. h (suc k) d (omega (arith, lt))))

  rising_by : (xs : List X) → IsNonDecreasingBy key xs → Rising xs
  rising_by [] up = tt
  rising_by (x ∷ xs) up = (above_by xs (key x) (λ k d lt. up 0 (suc k) d (omega arith) (omega (arith, lt))), rising_by xs (λ i j d le lt. up (suc i) (suc j) d (omega (arith, le)) (omega (arith, lt))))

  other_key : ((x y : X) → p x y ≡ true → key x ≡ key y) → (x y : X) → (key x ≡ key y → ⊥) → p x y ≡ false
  other_key same x y differ = elim (cases_Bool (p x y)) [
    | inl hit ↦ absurd (differ (same x y hit))
    | inr miss ↦ miss
  ]

  none_later : ((x y : X) → p x y ≡ true → key x ≡ key y) → (x : X) (n : ℕ) (ys : List X) → key x < n → Above n ys → list_any (p x) ys ≡ false
  none_later same x n [] lt above = refl
  none_later same x n (y ∷ ys) lt above = rw (other_key same x y (λ e. omega (arith, e, lt, above.0))) (none_later same x n ys lt above.1)

  below : (m n : ℕ) → m ≤ n → (n ≡ m → ⊥) → m < n
  below m n le differ = grind arith

  run_is : ((x y : X) → p x y ≡ true → key x ≡ key y) → (x : X) (ys : List X) → Above (key x) ys → Rising ys → meets_run p key x ys ≡ list_any (p x) ys
  run_is same x [] above rising = refl
  run_is same x (y ∷ ys) above rising =
      elim (eqb_tells (key y) (key x)) [
        | inl e ↦ rw e.0 (ap (λ (b : Bool). p x y || b) (run_is same x ys above.1 rising.1))
        | inr e ↦
            let lt = below (key x) (key y) above.0 e.1 in
            rw e.0 (sym (ap (λ (b : Bool). b || list_any (p x) ys) (other_key same x y (λ f. omega (arith, f, lt))) ∙ none_later same x (key y) ys lt rising.0))
      ]

  runs_are : ((x y : X) → p x y ≡ true → key x ≡ key y) → (xs : List X) → Rising xs → any_run p key xs ≡ any_pair p xs
  runs_are same [] rising = refl
  runs_are same (x ∷ xs) rising = rw (run_is same x xs rising.0 rising.1, runs_are same xs rising.1) refl

-- the runs of rows in the order of their keys tell of the rows in any order
pub runs_tell : {X : Type 0} (p : X → X → Bool) (key : X → ℕ) → ((x y : X) → p x y ≡ true → key x ≡ key y) → ((x y : X) → p x y ≡ p y x)
    → (xs sorted : List X) → IsPermutation xs sorted → IsNonDecreasingBy key sorted → any_run p key sorted ≡ any_pair p xs
runs_tell p key same flips xs sorted moved up = runs_are p key same sorted (rising_by p key sorted up) ∙ sym (any_pair_permuted p flips xs sorted moved)

-- ---- rows by their places

later_places : {X : Type 0} (x : X) (xs : List X) (from n : ℕ) → map (slice_get (x ∷ xs)) (range_with_len (suc from) n) ≡ map (slice_get xs) (range_with_len from n)
later_places x xs from zero = refl
later_places {X} x xs from (suc n) =
    let next : suc from + 1 ≡ suc (from + 1) = omega arith in
    ap (λ (os : List (Option X)). slice_get xs from ∷ os) (ap (λ (k : ℕ). map (slice_get (x ∷ xs)) (range_with_len k n)) next ∙ later_places x xs (from + 1) n)

-- the rows at all places are the rows
pub at_places : {X : Type 0} (xs : List X) → map (slice_get xs) (range_with_len 0 (length xs)) ≡ map (λ x. Some x) xs
at_places [] = refl
at_places {X} (x ∷ xs) = ap (λ (os : List (Option X)). Some x ∷ os) (later_places x xs 0 (length xs) ∙ at_places xs)
