-- Whether two rows of one key meet a test, where rows of one key stand side by side.
use Rattle.std.specs.Prelude.{ℕ, Bool, false, ◌||◌, ◌==◌, List, [], ◌∷◌, if◌then◌else◌}

-- a row meets the test with one of those after it, as far as they have its key
abbrev pub meets_run : {X : Type 0} → (X → X → Bool) → (X → ℕ) → X → List X → Bool
meets_run p key x [] = false
meets_run p key x (y ∷ ys) = if key y == key x then (p x y || meets_run p key x ys) else false

abbrev pub any_run : {X : Type 0} → (X → X → Bool) → (X → ℕ) → List X → Bool
any_run p key [] = false
any_run p key (x ∷ xs) = meets_run p key x xs || any_run p key xs
