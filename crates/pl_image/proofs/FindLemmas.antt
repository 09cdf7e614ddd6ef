-- Rows of which one alone can pass a test, and rows of which none does.
use Rattle.std.proofs.Common.{◌≡◌, ℕ, zero, suc, ◌<◌, Bool, true, false, cond, List, [], ◌∷◌, length, get_or, Some, None, refl, ap, ◌∙◌, arith}
use Rattle.std.specs.Prelude.{◌||◌, find}
use Rattle.std.specs.List.{list_any, flat_map}
use Rattle.std.proofs.lemmas.List.Folds.{list_any-append, list_any_at, list_any_none}
use Rattle.std.proofs.Math.Bool.{or-false}

-- ---- none

pub find_none : {X : Type 0} (p : X → Bool) (xs : List X) → ((k : ℕ) (d : X) → k < length xs → p (get_or xs k d) ≡ false) → find p xs ≡ None
find_none p [] misses = refl
find_none p (x ∷ xs) misses =
    let miss : p x ≡ false = misses 0 x (omega arith) in
    rw miss (find_none p xs (λ k d lt. misses (suc k) d (omega arith)))

-- ---- one alone

pub find_lone : {X : Type 0} (p : X → Bool) (xs : List X) (i : ℕ) (e : X) → i < length xs
    → ((k : ℕ) (d : X) → k < i → p (get_or xs k d) ≡ false) → ((k : ℕ) (d : X) → i < k → k < length xs → p (get_or xs k d) ≡ false)
    → find p xs ≡ cond (p (get_or xs i e)) (Some (get_or xs i e)) None
find_lone p [] i e lt before after = absurd (omega arith)
find_lone p (x ∷ xs) zero e lt before after =
    let none = find_none p xs (λ k d within. after (suc k) d (omega arith) (omega arith)) in
    rw none refl
find_lone p (x ∷ xs) (suc i) e lt before after =
    let miss : p x ≡ false = before 0 x (omega arith) in
    rw miss (find_lone p xs i e (omega arith) (λ k d less. before (suc k) d (omega arith)) (λ k d more within. after (suc k) d (omega arith) (omega arith)))

pub any_lone : {X : Type 0} (p : X → Bool) (xs : List X) (i : ℕ) (e : X) → i < length xs
    → ((k : ℕ) (d : X) → k < i → p (get_or xs k d) ≡ false) → ((k : ℕ) (d : X) → i < k → k < length xs → p (get_or xs k d) ≡ false)
    → list_any p xs ≡ p (get_or xs i e)
any_lone p [] i e lt before after = absurd (omega arith)
any_lone p (x ∷ xs) zero e lt before after =
    let none = list_any_none p xs (λ k d within. after (suc k) d (omega arith) (omega arith)) in
    rw none (or-false (p x))
any_lone p (x ∷ xs) (suc i) e lt before after =
    let miss : p x ≡ false = before 0 x (omega arith) in
    rw miss (any_lone p xs i e (omega arith) (λ k d less. before (suc k) d (omega arith)) (λ k d more within. after (suc k) d (omega arith) (omega arith)))

-- ---- lists one after the other

any_flat : {X Y : Type 0} (p : Y → Bool) (f : X → List Y) (xs : List X) → list_any p (flat_map f xs) ≡ list_any (λ x. list_any p (f x)) xs
any_flat p f [] = refl
any_flat p f (x ∷ xs) = list_any-append p (f x) (flat_map f xs) ∙ ap (λ (b : Bool). list_any p (f x) || b) (any_flat p f xs)

-- what passes in one of the lists passes in all of them together
pub any_in_flat : {X Y : Type 0} (p : Y → Bool) (f : X → List Y) (xs : List X) (k : ℕ) (d : X) → k < length xs → list_any p (f (get_or xs k d)) ≡ true → list_any p (flat_map f xs) ≡ true
any_in_flat p f xs k d lt hit = any_flat p f xs ∙ list_any_at (λ x. list_any p (f x)) xs k d lt hit
