-- Numbers that rise, and what holds of those between them.
use Rattle.std.proofs.Common.{◌≡◌, ℕ, ◌+◌, ◌<◌, ◌≤◌, List, [], ◌∷◌, ◌++◌, subst, arith, inl, inr}
use Rattle.std.specs.Prelude.{◌⊎◌}
use Rattle.std.specs.List.{All}
use Rattle.std.proofs.lemmas.Bool.{cases_lt}
use Rattle.std.proofs.lemmas.List.Elements.{All-cons, All-nil}
use Rattle.pl_conflict.specs.Between.{HoldsBetween}

-- another fact holds where one does
pub between_weaker : (P Q : ℕ → Type 0) (count from : ℕ) (ns : List ℕ) → ((i : ℕ) → P i → Q i) → HoldsBetween P count from ns → HoldsBetween Q count from ns
between_weaker P Q count from [] step all = λ i low high. step i (all i low high)
between_weaker P Q count from (n ∷ ns) step all = (λ i low high. step i (all.0 i low high), (all.1.0, (all.1.1.0, between_weaker P Q count (n + 1) ns step all.1.1.1)))

-- all are below the count
pub between_below : (P : ℕ → Type 0) (count from : ℕ) (ns : List ℕ) → HoldsBetween P count from ns → All (λ n. n < count) ns
between_below P count from [] all = All-nil (λ n. n < count)
between_below P count from (n ∷ ns) all = All-cons (λ n. n < count) n ns all.1.1.0 (between_below P count (n + 1) ns all.1.1.1)

last_or_before : (i count : ℕ) → i < count + 1 → (i < count) ⊎ (i ≡ count)
last_or_before i count lt = elim (cases_lt i count) [ inl before ↦ inl before | inr after ↦ inr (omega (arith, lt, after)) ]

-- the count grows by one of which it holds
pub between_grown : (P : ℕ → Type 0) (count from : ℕ) (ns : List ℕ) → P count → HoldsBetween P count from ns → HoldsBetween P (count + 1) from ns
between_grown P count from [] here all = λ i low high. elim (last_or_before i count high) [
  | inl before ↦ all i low before
  | inr last ↦ subst P (let e : count ≡ i = omega (arith, last) in e) here
]
between_grown P count from (n ∷ ns) here all = (all.0, (all.1.0, (omega (arith, all.1.1.0), between_grown P count (n + 1) ns here all.1.1.1)))

-- or by one that is added
pub between_pushed : (P : ℕ → Type 0) (count from : ℕ) (ns : List ℕ) → from ≤ count → HoldsBetween P count from ns → HoldsBetween P (count + 1) from (ns ++ count ∷ [])
between_pushed P count from [] le all = (all, (le, (omega arith, λ i low high. absurd (omega (arith, low, high)))))
between_pushed P count from (n ∷ ns) le all = (all.0, (all.1.0, (omega (arith, all.1.1.0), between_pushed P count (n + 1) ns (omega (arith, all.1.1.0)) all.1.1.1)))
