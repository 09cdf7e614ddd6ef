-- Numbers that rise, and what holds of those between them.
use Rattle.std.specs.Prelude.{◌≤◌, ◌<◌, ◌+◌, ℕ, List, [], ◌∷◌}

-- numbers rise from one on below a count, and a fact holds of each number there that is none of them
abbrev pub HoldsBetween : (ℕ → Type 0) → ℕ → ℕ → List ℕ → Type 0
HoldsBetween P count from [] = (i : ℕ) → from ≤ i → i < count → P i
HoldsBetween P count from (n ∷ ns) = ((i : ℕ) → from ≤ i → i < n → P i) × ((from ≤ n) × ((n < count) × HoldsBetween P count (n + 1) ns))
