-- Tests over lists, lists of numbers, and ranges.
use Rattle.std.proofs.Common.{◌≡◌, ℕ, zero, suc, ◌+◌, ◌<◌, ◌≤◌, Bool, true, false, cond, List, [], ◌∷◌, length, Some, None, refl, sym, ap, ◌∙◌, arith, inl, inr, eqb}
use Rattle.std.specs.Prelude.{◌==◌, find}
use Rattle.std.specs.List.{All, list_all, range_with_len, IsDistinct, AllByRecursion}
use Rattle.std.specs.Set.{is_member}
use Rattle.std.specs.Cmp.{IsEquivalence}
use Rattle.std.proofs.lemmas.Bool.{cases_Bool, false≢true, and_parts, or_cases, or_parts, or_left, or_right, eqb-true, eq-eqb}
use Rattle.std.proofs.lemmas.Bool.Decides.{nat_tests}
use Rattle.std.proofs.lemmas.Map.Made.{length-le_from_is_member}
use Rattle.std.proofs.lemmas.List.FromFn.{length-range_with_len}
use Rattle.pl_init.specs.Graph.{has_number}

-- ---- tests over lists

-- what holds of every number holds of one of them
pub all_has : (p : ℕ → Bool) (xs : List ℕ) (k : ℕ) → list_all p xs ≡ true → has_number xs k ≡ true → p k ≡ true
all_has p [] k all here = absurd (false≢true here)
all_has p (x ∷ xs) k all here =
    let parts = and_parts (p x) (list_all p xs) all in
    elim (or_cases (x == k) (has_number xs k) here) [
      | inl e ↦ let same : x ≡ k = eqb-true x k e in rw (← same) parts.0
      | inr more ↦ all_has p xs k parts.1 more
    ]

-- where something does not hold of every number, there is one of which it does not
pub all_missed : (p : ℕ → Bool) (xs : List ℕ) → list_all p xs ≡ false → (k : ℕ) × (has_number xs k ≡ true) × (p k ≡ false)
all_missed p [] none = absurd (false≢true (sym none))
all_missed p (x ∷ xs) none =
    elim (cases_Bool (p x)) [
      | inl t ↦ let rest : list_all p xs ≡ false = rw t at none in
          let more : (k : ℕ) × (has_number xs k ≡ true) × (p k ≡ false) = all_missed p xs rest in
          (more.0, or_right (x == more.0) (has_number xs more.0) more.1, more.2)
      | inr f ↦ (x, or_left (x == x) (has_number xs x) (eq-eqb x x refl), f)
    ]

pub all_from : (p : ℕ → Bool) (xs : List ℕ) → ((k : ℕ) → has_number xs k ≡ true → p k ≡ true) → list_all p xs ≡ true
all_from p xs each =
    elim (cases_Bool (list_all p xs)) [
      | inl t ↦ t
      | inr f ↦ let miss : (k : ℕ) × (has_number xs k ≡ true) × (p k ≡ false) = all_missed p xs f in absurd (false≢true (sym miss.2 ∙ each miss.0 miss.1))
    ]

-- what holds of each number that a list has holds at each place of it
pub all_members : (count : ℕ) (xs : List ℕ) → ((k : ℕ) → has_number xs k ≡ true → k < count) → All (λ (k : ℕ). k < count) xs
all_members count [] each i d lt = absurd (omega arith)
all_members count (x ∷ xs) each zero d lt = each x (or_left (x == x) (has_number xs x) (eq-eqb x x refl))
all_members count (x ∷ xs) each (suc i) d lt = all_members count xs (λ k t. each k (or_right (x == k) (has_number xs k) t)) i d (omega arith)

-- ---- ranges

pub range_has : (n a k : ℕ) → a ≤ k → k < a + n → has_number (range_with_len a n) k ≡ true
range_has zero a k low high = absurd (omega arith)
range_has (suc n) a k low high =
    elim (cases_Bool (a == k)) [
      | inl t ↦ or_left (a == k) (has_number (range_with_len (a + 1) n) k) t
      | inr f ↦ or_right (a == k) (has_number (range_with_len (a + 1) n) k) (range_has n (a + 1) k (above a k low f) (omega arith))
    ]
  where
    above : (a k : ℕ) → a ≤ k → (a == k) ≡ false → a + 1 ≤ k
    above a k low f = grind (arith, nat_tests)

pub range_within : (n a k : ℕ) → has_number (range_with_len a n) k ≡ true → (a ≤ k) × (k < a + n)
range_within zero a k here = absurd (false≢true here)
range_within (suc n) a k here =
    elim (or_cases (a == k) (has_number (range_with_len (a + 1) n) k) here) [
      | inl e ↦ let same : a ≡ k = eqb-true a k e in (omega arith, omega arith)
      | inr more ↦ let w : (a + 1 ≤ k) × (k < (a + 1) + n) = range_within n (a + 1) k more in (omega (arith, w.0), omega (arith, w.1))
    ]

pub range_missed : (n a k : ℕ) → k < a → has_number (range_with_len a n) k ≡ false
range_missed n a k low =
    elim (cases_Bool (has_number (range_with_len a n) k)) [
      | inl t ↦ let w : (a ≤ k) × (k < a + n) = range_within n a k t in absurd (omega (arith, w.0))
      | inr f ↦ f
    ]

-- ---- distinct numbers

pub number_laws : IsEquivalence eqb
number_laws = record {
  refl = λ x. eq-eqb x x refl;
  symm = λ x y. flips x y;
  congr = λ x y z e. let same : x ≡ y = eqb-true x y e in ap (λ (k : ℕ). eqb k z) same;
}
  where
    flips : (x y : ℕ) → eqb x y ≡ eqb y x
    flips x y = grind (arith, nat_tests)

pub has_flip : (xs : List ℕ) (k : ℕ) → has_number xs k ≡ is_member eqb xs k
has_flip [] k = refl
has_flip (x ∷ xs) k = rw (number_laws.symm x k, has_flip xs k) refl

none_by : (xs : List ℕ) (x : ℕ) → has_number xs x ≡ false → AllByRecursion (λ (y : ℕ). eqb x y ≡ false) xs
none_by [] x none = tt
none_by (y ∷ ys) x none = let parts = or_parts (y == x) (has_number ys x) none in (number_laws.symm x y ∙ parts.0, none_by ys x parts.1)

pub distinct_cons : (x : ℕ) (xs : List ℕ) → has_number xs x ≡ false → IsDistinct eqb xs → IsDistinct eqb (x ∷ xs)
unfolding IsDistinct
distinct_cons x xs none rest = (none_by xs x none, rest)

pub distinct_nil : IsDistinct eqb []
unfolding IsDistinct
distinct_nil = tt

pub range_distinct : (n a : ℕ) → IsDistinct eqb (range_with_len a n)
range_distinct zero a = distinct_nil
range_distinct (suc n) a = distinct_cons a (range_with_len (a + 1) n) (range_missed n (a + 1) a (omega arith)) (range_distinct n (a + 1))

-- distinct numbers are no more than those among which they all are
pub no_longer : (xs ys : List ℕ) → IsDistinct eqb xs → ((k : ℕ) → has_number xs k ≡ true → has_number ys k ≡ true) → length xs ≤ length ys
no_longer xs ys distinct within = length-le_from_is_member number_laws xs ys distinct (λ q t. sym (has_flip ys q) ∙ within q (has_flip xs q ∙ t))

-- as many distinct numbers below a number as it says are all of them
pub all_there : (xs : List ℕ) (n : ℕ) → IsDistinct eqb xs → ((k : ℕ) → has_number xs k ≡ true → k < n) → length xs ≡ n → (m : ℕ) → m < n → has_number xs m ≡ true
all_there xs n distinct below count m small =
    elim (cases_Bool (has_number xs m)) [
      | inl t ↦ t
      | inr f ↦ let le : suc (length xs) ≤ length (range_with_len 0 n) = no_longer (m ∷ xs) (range_with_len 0 n) (distinct_cons m xs f distinct) (λ k t. elim (or_cases (m == k) (has_number xs k) t) [
        | inl e ↦ let same : m ≡ k = eqb-true m k e in range_has n 0 k (omega arith) (omega arith)
        | inr more ↦ let lt : k < n = below k more in range_has n 0 k (omega arith) (omega arith)
      ]) in absurd (omega (arith, le, count, length-range_with_len 0 n))
    ]

-- where fewer stand than there are, one does not stand
pub one_left : (xs : List ℕ) (n : ℕ) → length xs < n → (m : ℕ) × (m < n) × (has_number xs m ≡ false)
one_left xs n few =
    elim (cases_Bool (list_all (has_number xs) (range_with_len 0 n))) [
      | inl t ↦ let le : length (range_with_len 0 n) ≤ length xs = no_longer (range_with_len 0 n) xs (range_distinct n 0) (λ k here. all_has (has_number xs) (range_with_len 0 n) k t here) in
          absurd (omega (arith, le, length-range_with_len 0 n))
      | inr f ↦ let miss : (k : ℕ) × (has_number (range_with_len 0 n) k ≡ true) × (has_number xs k ≡ false) = all_missed (has_number xs) (range_with_len 0 n) f in
          let w : (0 ≤ miss.0) × (miss.0 < 0 + n) = range_within n 0 miss.0 miss.1 in
          (miss.0, omega (arith, w.1), miss.2)
    ]

-- ---- counts

-- how many pass
abbrev pub tally : (ℕ → Bool) → List ℕ → ℕ
tally p [] = 0
tally p (x ∷ xs) = cond (p x) 1 0 + tally p xs

pub count_le : (p q : ℕ → Bool) (xs : List ℕ) → ((k : ℕ) → p k ≡ true → q k ≡ true) → tally p xs ≤ tally q xs
count_le p q [] sub = omega arith
count_le p q (x ∷ xs) sub = let more : tally p xs ≤ tally q xs = count_le p q xs sub in one (p x) (q x) (sub x) more
  where
    one : (a b : Bool) {m n : ℕ} → (a ≡ true → b ≡ true) → m ≤ n → cond a 1 0 + m ≤ cond b 1 0 + n
    one true true s le = omega arith
    one true false s le = absurd (false≢true (s refl))
    one false true s le = omega arith
    one false false s le = omega arith

pub count_lt : (p q : ℕ → Bool) (xs : List ℕ) (k : ℕ) → ((m : ℕ) → p m ≡ true → q m ≡ true) → has_number xs k ≡ true → p k ≡ false → q k ≡ true → tally p xs < tally q xs
count_lt p q [] k sub here no' yes' = absurd (false≢true here)
count_lt p q (x ∷ xs) k sub here no' yes' =
    elim (or_cases (x == k) (has_number xs k) here) [
      | inl e ↦ let same : x ≡ k = eqb-true x k e in
          let more : tally p xs ≤ tally q xs = count_le p q xs sub in
          let pf : p x ≡ false = ap p same ∙ no' in
          let qt : q x ≡ true = ap q same ∙ yes' in
          rw (pf, qt) (omega arith)
      | inr rest ↦ let more : tally p xs < tally q xs = count_lt p q xs k sub rest no' yes' in one (p x) (q x) (sub x) more
    ]
  where
    one : (a b : Bool) {m n : ℕ} → (a ≡ true → b ≡ true) → m < n → cond a 1 0 + m < cond b 1 0 + n
    one true true s le = omega arith
    one true false s le = absurd (false≢true (s refl))
    one false true s le = omega arith
    one false false s le = omega arith

-- ---- the first that passes

pub find_some : (p : ℕ → Bool) (xs : List ℕ) (k : ℕ) → has_number xs k ≡ true → p k ≡ true → (m : ℕ) × (find p xs ≡ Some m)
find_some p [] k here t = absurd (false≢true here)
find_some p (x ∷ xs) k here t =
    elim (cases_Bool (p x)) [
      | inl yes' ↦ (x, rw yes' refl)
      | inr no' ↦ elim (or_cases (x == k) (has_number xs k) here) [
        | inl e ↦ let same : x ≡ k = eqb-true x k e in absurd (false≢true (sym no' ∙ (ap p same ∙ t)))
        | inr more ↦ let f : (m : ℕ) × (find p xs ≡ Some m) = find_some p xs k more t in (f.0, rw no' f.1)
      ]
    ]

pub record IsFirst (p : ℕ → Bool) (a n m : ℕ) : Type 0 where
  pub passes : p m ≡ true
  pub low : a ≤ m
  pub high : m < a + n
  pub first : (k : ℕ) → a ≤ k → k < m → p k ≡ false

pub found_first : (p : ℕ → Bool) (n a m : ℕ) → find p (range_with_len a n) ≡ Some m → IsFirst p a n m
found_first p zero a m f = absurd (none_some m f)
  where
    none_some : (m : ℕ) → None ≡ Some m → ⊥
    none_some m h = cc
found_first p (suc n) a m f =
    elim (cases_Bool (p a)) [
      | inl yes' ↦ let same : a ≡ m = same_some a m (rw yes' at f) in record { passes = rw (← same) yes'; low = omega arith; high = omega arith; first = λ k low lt. absurd (omega (arith, low, lt, same)) }
      | inr no' ↦ let i : IsFirst p (a + 1) n m = found_first p n (a + 1) m (rw no' at f) in
          record {
            passes = i.passes;
            low = omega (arith, i.low);
            high = omega (arith, i.high);
            first = λ k low lt. elim (cases_Bool (a == k)) [
              | inl e ↦ let same : a ≡ k = eqb-true a k e in rw (← same) no'
              | inr ne ↦ i.first k (above a k low ne) lt
            ];
          }
    ]
  where
    same_some : (a m : ℕ) → Some a ≡ Some m → a ≡ m
    same_some a m h = cc

    above : (a k : ℕ) → a ≤ k → (a == k) ≡ false → a + 1 ≤ k
    above a k low f = grind (arith, nat_tests)
