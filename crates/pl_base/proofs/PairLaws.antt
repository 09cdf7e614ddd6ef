-- Two rows of a list that meet a test, in whatever order the rows are.
use Rattle.std.proofs.Common.{◌≡◌, Bool, true, false, ◌||◌, cond, filter, map, List, [], ◌∷◌, refl, sym, ap, ◌∙◌, inl, inr}
use Rattle.std.specs.List.{list_any, IsDistinct, AllByRecursion}
use Rattle.std.specs.List.Sorted.{IsPermutation}
use Rattle.std.proofs.lemmas.Bool.{cases_Bool, or_parts, true≢false}
use Rattle.std.proofs.lemmas.List.Sorted.{IsPermutation-sym}
use Rattle.std.proofs.lemmas.Map.Keys.{IsDistinct-IsPermutation}
use Rattle.pl_base.specs.Pairs.{any_pair}
use Rattle.pl_base.proofs.FindLaws.{any_map, any_same}

none_of : {X : Type 0} (p : X → Bool) (xs : List X) → list_any p xs ≡ false → AllByRecursion (λ y. p y ≡ false) xs
none_of p [] e = tt
none_of p (x ∷ xs) e = let parts = or_parts (p x) (list_any p xs) e in (parts.0, none_of p xs parts.1)

of_none : {X : Type 0} (p : X → Bool) (xs : List X) → AllByRecursion (λ y. p y ≡ false) xs → list_any p xs ≡ false
of_none p [] h = refl
of_none p (x ∷ xs) h = rw h.0 (of_none p xs h.1)

distinct : {X : Type 0} (p : X → X → Bool) (xs : List X) → any_pair p xs ≡ false → IsDistinct p xs
unfolding IsDistinct
distinct p [] e = tt
distinct p (x ∷ xs) e = let parts = or_parts (list_any (p x) xs) (any_pair p xs) e in (none_of (p x) xs parts.0, distinct p xs parts.1)

no_pair : {X : Type 0} (p : X → X → Bool) (xs : List X) → IsDistinct p xs → any_pair p xs ≡ false
unfolding IsDistinct
no_pair p [] h = refl
no_pair p (x ∷ xs) h = rw (of_none (p x) xs h.0) (no_pair p xs h.1)

-- the rows in another order
pub any_pair_permuted : {X : Type 0} (p : X → X → Bool) → ((x y : X) → p x y ≡ p y x) → (xs ys : List X) → IsPermutation xs ys → any_pair p xs ≡ any_pair p ys
any_pair_permuted p flips xs ys same =
    elim (cases_Bool (any_pair p xs)) [
      | inl some ↦ elim (cases_Bool (any_pair p ys)) [
        | inl also ↦ some ∙ sym also
        | inr none ↦ absurd (true≢false (sym some ∙ no_pair p xs (IsDistinct-IsPermutation p flips ys xs (IsPermutation-sym xs ys same) (distinct p ys none))))
      ]
      | inr none ↦ none ∙ sym (no_pair p ys (IsDistinct-IsPermutation p flips xs ys same (distinct p xs none)))
    ]

-- ---- rows of which no pair meets the test, left out

none_left_by : {X : Type 0} (p : X → Bool) (d : X → Bool) (x : X) (xs : List X) (b : Bool) → d x ≡ b → ((x : X) → d x ≡ false → p x ≡ false)
    → list_any p (filter d xs) ≡ list_any p xs → list_any p (cond b (x ∷ filter d xs) (filter d xs)) ≡ (p x || list_any p xs)
none_left_by p d x xs true e without more = ap (λ (b : Bool). p x || b) more
none_left_by p d x xs false e without more = more ∙ sym (ap (λ (b : Bool). b || list_any p xs) (without x e))

none_with : {X : Type 0} (p : X → X → Bool) (d : X → Bool) (x : X) (xs : List X) → d x ≡ false → ((x y : X) → d x ≡ false → p x y ≡ false) → list_any (p x) xs ≡ false
none_with p d x [] e without = refl
none_with p d x (y ∷ ys) e without = rw (without x y e) (none_with p d x ys e without)

none_left : {X : Type 0} (p : X → Bool) (d : X → Bool) → ((x : X) → d x ≡ false → p x ≡ false) → (xs : List X) → list_any p (filter d xs) ≡ list_any p xs
none_left p d without [] = refl
none_left {X} p d without (x ∷ xs) = none_left_by p d x xs (d x) refl without (none_left p d without xs)

pairs_left_by : {X : Type 0} (p : X → X → Bool) (d : X → Bool) (x : X) (xs : List X) (b : Bool) → d x ≡ b → ((x y : X) → d x ≡ false → p x y ≡ false)
    → list_any (p x) (filter d xs) ≡ list_any (p x) xs → any_pair p (filter d xs) ≡ any_pair p xs → any_pair p (cond b (x ∷ filter d xs) (filter d xs)) ≡ (list_any (p x) xs || any_pair p xs)
pairs_left_by p d x xs true e without one more = rw (one, more) refl
pairs_left_by p d x xs false e without one more = more ∙ sym (ap (λ (b : Bool). b || any_pair p xs) (none_with p d x xs e without))

pub any_pair_left : {X : Type 0} (p : X → X → Bool) (d : X → Bool) → ((x y : X) → p x y ≡ p y x) → ((x y : X) → d x ≡ false → p x y ≡ false) → (xs : List X) → any_pair p (filter d xs) ≡ any_pair p xs
any_pair_left p d flips without [] = refl
any_pair_left p d flips without (x ∷ xs) =
    pairs_left_by p d x xs (d x) refl without (none_left (p x) d (λ y e. flips x y ∙ without y x e) xs) (any_pair_left p d flips without xs)

-- ---- other rows, and another test

-- the rows of a list that another is made into
pub any_pair_map : {X Y : Type 0} (p : Y → Y → Bool) (f : X → Y) (xs : List X) → any_pair p (map f xs) ≡ any_pair (λ x y. p (f x) (f y)) xs
any_pair_map p f [] = refl
any_pair_map p f (x ∷ xs) = rw (any_map (p (f x)) f xs, any_pair_map p f xs) refl

-- a test that says the same
pub any_pair_same : {X : Type 0} (p q : X → X → Bool) (xs : List X) → ((x y : X) → p x y ≡ q x y) → any_pair p xs ≡ any_pair q xs
any_pair_same p q [] same = refl
any_pair_same p q (x ∷ xs) same = rw (any_same (p x) (q x) xs (same x), any_pair_same p q xs same) refl
