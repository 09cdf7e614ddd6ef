-- Numbers under keys.
use Rattle.std.specs.Prelude.{◌≡◌, ◌≤◌, ◌<◌, ◌+◌, ℕ, Bool, true, ◌&&◌, ◌==◌, List, Option, Some}
use Rattle.std.specs.List.{All, list_any}
use Rattle.std.specs.List.Sorted.{IsNonDecreasingBy}
use Rattle.pl_scope.specs.declared.entries.Entry.{Entry}

-- an entry of a key and a number
abbrev pub is_entry : ℕ → ℕ → Entry → Bool
is_entry key value e = e.key == key && e.value == value

-- an entry of a key
abbrev pub has_key : ℕ → Entry → Bool
has_key key e = e.key == key

-- an entry of a number
abbrev pub has_value : ℕ → Entry → Bool
has_value value e = e.value == value

-- entries that have all that stand under keys of a range, and no others than there were, in the order of the keys where these were
pub record AreBetween (es : List Entry) (first end : ℕ) (found : List Entry) : Type 0 where
  pub whole : (key value : ℕ) → first ≤ key → key < end → list_any (is_entry key value) es ≡ true → list_any (is_entry key value) found ≡ true
  pub among : (count : ℕ) → All (λ e. e.value < count) es → All (λ e. e.value < count) found
  pub rising : IsNonDecreasingBy (λ e. e.key) es → IsNonDecreasingBy (λ e. e.key) found

-- the same of one key
abbrev pub AreUnder : List Entry → ℕ → List Entry → Type 0
AreUnder es key found = AreBetween es key (key + 1) found

-- entries with a number more, which stands under a key, if there is one
pub record IsAdded (key : Option ℕ) (value : ℕ) (old new : List Entry) : Type 0 where
  pub more : (e : Entry) → list_any (is_entry e.key e.value) old ≡ true → list_any (is_entry e.key e.value) new ≡ true
  pub within : (count : ℕ) → value < count → All (λ e. e.value < count) old → All (λ e. e.value < count) new
  pub there : (k : ℕ) → key ≡ Some k → list_any (is_entry k value) new ≡ true
