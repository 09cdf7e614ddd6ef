-- The first element of a list that passes a test, in lists that are alike for the test.
use Rattle.std.proofs.Common.{◌≡◌, ℕ, suc, ◌<◌, Bool, true, false, List, [], ◌∷◌, ◌++◌, length, take, drop, get_or, Some, refl, sym, ap, ◌∙◌, arith, inl, inr}
use Rattle.std.specs.Prelude.{find}
use Rattle.std.specs.List.{before_first, list_all, list_any, position_or_len}
use Rattle.std.proofs.lemmas.Bool.{and_parts, cases_Bool, or_from, or_parts}
use Rattle.std.proofs.lemmas.List.{take-append-drop}

none_of_ends : {X : Type 0} (p ends : X → Bool) (xs : List X) → list_all ends xs ≡ true → ((x : X) → ends x ≡ true → p x ≡ false) → list_any p xs ≡ false
none_of_ends p ends [] all each = refl
none_of_ends p ends (x ∷ xs) all each =
    let both = and_parts (ends x) (list_all ends xs) all in
    or_from (p x) (list_any p xs) (each x both.0) (none_of_ends p ends xs both.1 each)

find_front : {X : Type 0} (p : X → Bool) (xs ys : List X) → list_any p ys ≡ false → find p (xs ++ ys) ≡ find p xs
find_front p [] [] none = refl
find_front p [] (y ∷ ys) none = let parts = or_parts (p y) (list_any p ys) none in rw parts.0 (find_front p [] ys parts.1)
find_front p (x ∷ xs) ys none = elim (cases_Bool (p x)) [
  | inl hit ↦ rw hit refl
  | inr miss ↦ rw miss (find_front p xs ys none)
]

-- where all from the first end on are ends, and no end passes
pub find_before : {X : Type 0} (p ends : X → Bool) (xs : List X) → list_all ends (drop (position_or_len ends xs) xs) ≡ true → ((x : X) → ends x ≡ true → p x ≡ false) → find p (before_first ends xs) ≡ find p xs
find_before p ends xs all each =
    let k : ℕ = position_or_len ends xs in
    sym (find_front p (take k xs) (drop k xs) (none_of_ends p ends (drop k xs) all each)) ∙ ap (find p) (take-append-drop k xs)

-- two elements are alike for a test: both pass and are the same, or none does
abbrev pub IsAlike : {X : Type 0} → (X → Bool) → X → X → Type 0
IsAlike p x y = (p x ≡ p y) × (p x ≡ true → x ≡ y)

pub find_like : {X : Type 0} (p : X → Bool) (xs ys : List X) → length xs ≡ length ys → ((i : ℕ) (d : X) → i < length xs → IsAlike p (get_or xs i d) (get_or ys i d)) → find p xs ≡ find p ys
find_like p [] [] size each = refl
find_like p [] (y ∷ ys) size each = absurd (omega (arith, size))
find_like p (x ∷ xs) [] size each = absurd (omega (arith, size))
find_like p (x ∷ xs) (y ∷ ys) size each =
    let first = each 0 x (omega arith) in
    let rest = find_like p xs ys (omega (arith, size)) (λ i d lt. each (suc i) d (omega (arith, lt))) in
    elim (cases_Bool (p x)) [
      | inl hit ↦ let same = first.1 hit in rw (hit, sym first.0 ∙ hit) (ap (λ (z : _). Some z) same)
      | inr miss ↦ rw (miss, sym first.0 ∙ miss) rest
    ]
