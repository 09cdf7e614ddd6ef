-- What a sink has got, where it tells that.
use Rattle.std.specs.Prelude.{◌≡◌, ℕ, ◌≤◌, List, ◌++◌, take, length, Option, Some, None}

-- what a sink has got after these bytes more
abbrev pub got_after : Option (List ℕ) → List ℕ → Option (List ℕ)
got_after None bytes = None
got_after (Some got) bytes = Some (got ++ bytes)

-- a sink has got some first bytes of these more, perhaps none or all
abbrev pub GotPrefix : Option (List ℕ) → Option (List ℕ) → List ℕ → Type 0
GotPrefix old new bytes = (n : ℕ) × (n ≤ length bytes) × (new ≡ got_after old (take n bytes))
