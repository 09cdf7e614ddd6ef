-- A text between a separator's places, by its bytes.
use Rattle.std.specs.Prelude.{◌≡◌, ℕ, ◌==◌, List, [], ◌∷◌, if◌then◌else◌}
use Rattle.pl_build.specs.Words.{pieces}

-- a byte in front of the first piece
abbrev pub onto : ℕ → List (List ℕ) → List (List ℕ)
onto b [] = []
onto b (piece ∷ more) = (b ∷ piece) ∷ more

-- each separator ends a piece
unfoldable pub split_by : ℕ → List ℕ → List (List ℕ)
split_by separator [] = [] ∷ []
split_by separator (b ∷ bytes) = if b == separator then [] ∷ split_by separator bytes else onto b (split_by separator bytes)

-- the lines of a recipe, and the words of a line, are told byte by byte
abbrev pub PiecesAreSplit : Type 0
PiecesAreSplit = (separator : ℕ) (text : List ℕ) → pieces (separator ∷ []) text ≡ split_by separator text
