-- Which wants are loaded together, by their positions.
use Rattle.std.specs.Prelude.{◌≡◌, ℕ, ◌<◌, Bool, false, ◌&&◌, ◌==◌, List, length, slice_index_or}
use Rattle.std.specs.List.{list_any}

-- a walk holds a want
abbrev pub walk_has : List ℕ → ℕ → Bool
walk_has walk i = list_any (λ k. k == i) walk

-- some walk holds both wants
unfoldable pub are_together : List (List ℕ) → ℕ → ℕ → Bool
are_together walks i j = list_any (λ walk. walk_has walk i && walk_has walk j) walks

-- a flag for each want that some walk holds together with one
pub record AreFlags (flags : List Bool) (walks : List (List ℕ)) (i count : ℕ) : Type 0 where
  pub long : length flags ≡ count
  pub each : (j : ℕ) → j < count → slice_index_or flags j false ≡ are_together walks i j
