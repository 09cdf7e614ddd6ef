-- Strings of a string table (gABI chapter 4, "String Table"): each goes up to a 0 byte, which ends it.
use Rattle.std.specs.Prelude.{ℕ, Bool, ◌==◌, List, take, drop, position, Option}
use Rattle.std.specs.List.{list_any}
use Rattle.std.specs.Option.{option_map}

abbrev pub is_zero : ℕ → Bool
is_zero byte = byte == 0

-- a string that begins at an offset has an end: a 0 byte follows
unfoldable pub has_end : ℕ → List ℕ → Bool
has_end at strings = list_any is_zero (drop at strings)

-- the bytes up to the first 0, without it, where there is one
unfoldable pub ended : List ℕ → Option (List ℕ)
ended bytes = option_map (λ size. take size bytes) (position is_zero bytes)

-- the string that begins at an offset, where it has an end
unfoldable pub string_at : ℕ → List ℕ → Option (List ℕ)
string_at at strings = ended (drop at strings)
