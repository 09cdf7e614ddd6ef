-- Rows of which at most one is over an address, from the first row on.
use Rattle.std.proofs.Common.{◌≡◌, ℕ, zero, suc, ◌<◌, Bool, true, false, List, [], ◌∷◌, ◌++◌, length, get_or, refl, sym, ◌∙◌, arith, inl, inr}
use Rattle.std.specs.List.{list_any, AllZip}
use Rattle.std.proofs.lemmas.Bool.{cases_Bool, false≢true, or_from, or_parts, or_right}
use Rattle.std.proofs.lemmas.List.Folds.{list_any-append, list_any_at, list_any_none}
use Rattle.pl_base.specs.Memory.{AtMostOne}

-- each row's addresses are those of no later row
abbrev pub Lone : {X : Type 0} → (ℕ → X → Bool) → List X → Type 0
Lone test [] = Unit {0}
Lone test (x ∷ xs) = ((a : ℕ) → test a x ≡ true → list_any (test a) xs ≡ false) × Lone test xs

-- a row at an index does not pass where none does
pub none_at : {X : Type 0} (p : X → Bool) (xs : List X) (k : ℕ) (d : X) → k < length xs → list_any p xs ≡ false → p (get_or xs k d) ≡ false
none_at p xs k d lt none = elim (cases_Bool (p (get_or xs k d))) [
  | inl hit ↦ absurd (false≢true (sym none ∙ list_any_at p xs k d lt hit))
  | inr miss ↦ miss
]

pub lone_most : {X : Type 0} (test : ℕ → X → Bool) (xs : List X) → Lone test xs → AtMostOne test xs
lone_most test [] lone i j a d lt within hit = absurd (omega (arith, within))
lone_most test (x ∷ xs) lone i zero a d lt within hit = absurd (omega (arith, lt))
lone_most test (x ∷ xs) lone zero (suc j) a d lt within hit = none_at (test a) xs j d (omega (arith, within)) (lone.0 a hit)
lone_most test (x ∷ xs) lone (suc i) (suc j) a d lt within hit = lone_most test xs lone.1 i j a d (omega (arith, lt)) (omega (arith, within)) hit

pub most_lone : {X : Type 0} (test : ℕ → X → Bool) (xs : List X) → AtMostOne test xs → Lone test xs
most_lone test [] most = tt
most_lone test (x ∷ xs) most = (
  λ a hit. list_any_none (test a) xs (λ k d lt. most zero (suc k) a d (omega arith) (omega (arith, lt)) hit),
  most_lone test xs (λ i j a d lt within hit. most (suc i) (suc j) a d (omega (arith, lt)) (omega (arith, within)) hit),
)

-- ---- one list behind another

-- the addresses of the first list are those of no row of the second
abbrev pub Cross : {X : Type 0} → (ℕ → X → Bool) → List X → List X → Type 0
Cross test xs ys = (a : ℕ) → list_any (test a) xs ≡ true → list_any (test a) ys ≡ false

pub lone_rest : {X : Type 0} (test : ℕ → X → Bool) (xs ys : List X) → Lone test (xs ++ ys) → Lone test ys
lone_rest test [] ys lone = lone
lone_rest test (x ∷ xs) ys lone = lone_rest test xs ys lone.1

pub lone_cross : {X : Type 0} (test : ℕ → X → Bool) (xs ys : List X) → Lone test (xs ++ ys) → Cross test xs ys
lone_cross test [] ys lone = λ a hit. absurd (false≢true hit)
lone_cross test (x ∷ xs) ys lone = λ a some. elim (cases_Bool (test a x)) [
  | inl hit ↦ (or_parts (list_any (test a) xs) (list_any (test a) ys) (sym (list_any-append (test a) xs ys) ∙ lone.0 a hit)).1
  | inr miss ↦ lone_cross test xs ys lone.1 a (rw miss at some)
]

pub lone_join : {X : Type 0} (test : ℕ → X → Bool) (xs ys : List X) → Lone test xs → Lone test ys → Cross test xs ys → Lone test (xs ++ ys)
lone_join test [] ys front back cross = back
lone_join test (x ∷ xs) ys front back cross = (
  λ a hit. list_any-append (test a) xs ys ∙ or_from (list_any (test a) xs) (list_any (test a) ys) (front.0 a hit) (cross a (rw hit refl)),
  lone_join test xs ys front.1 back (λ a some. cross a (or_right (test a x) (list_any (test a) xs) some)),
)

-- ---- rows made of others

-- rows that are over the same addresses as those that they are made of
pub lone_zip : {X Y : Type 0} (test : ℕ → X → Bool) (over : ℕ → Y → Bool) (xs : List X) (ys : List Y) → AllZip (λ x y. (a : ℕ) → over a y ≡ test a x) xs ys → Lone test xs → Lone over ys
lone_zip test over [] [] same lone = tt
lone_zip test over [] (y ∷ ys) same lone = absurd same
lone_zip test over (x ∷ xs) [] same lone = absurd same
lone_zip {X = X} {Y = Y} test over (x ∷ xs) (y ∷ ys) same lone = (
  λ a hit. any_zip a xs ys same.1 ∙ lone.0 a (sym (same.0 a) ∙ hit),
  lone_zip test over xs ys same.1 lone.1,
)
  where
    any_zip : (a : ℕ) (xs : List X) (ys : List Y) → AllZip (λ x y. (a : ℕ) → over a y ≡ test a x) xs ys → list_any (over a) ys ≡ list_any (test a) xs
    any_zip a [] [] same = refl
    any_zip a [] (y ∷ ys) same = absurd same
    any_zip a (x ∷ xs) [] same = absurd same
    any_zip a (x ∷ xs) (y ∷ ys) same = rw (same.0 a, any_zip a xs ys same.1) refl
