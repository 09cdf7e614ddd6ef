-- Flags of rows.
use Rattle.std.specs.Prelude.{◌≡◌, ℕ, Bool, ◌||◌, ◌==◌, List, length, slice_get, Some}
use Rattle.std.specs.List.{list_any}

-- a row is among these
unfoldable pub flagged : List ℕ → ℕ → Bool
flagged rows row = list_any (λ r. r == row) rows

-- the flags of rows are set, and no other changes
pub record FlagsAll (rows : List ℕ) (before after : List Bool) : Type 0 where
  pub count : length after ≡ length before
  pub each : (row : ℕ) (b : Bool) → slice_get before row ≡ Some b → slice_get after row ≡ Some (b || flagged rows row)

-- a flag of each of so many rows, set for these
pub record AreFlagsOf (size : ℕ) (rows : List ℕ) (flags : List Bool) : Type 0 where
  pub count : length flags ≡ size
  pub each : (row : ℕ) (b : Bool) → slice_get flags row ≡ Some b → b ≡ flagged rows row
