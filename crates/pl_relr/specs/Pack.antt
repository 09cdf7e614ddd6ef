-- How places are packed: an even entry, then odd ones as long as the first place left is one that the odd entry can name. Each odd entry names the places in order up to the first one that it cannot name.
use Rattle.std.specs.Prelude.{◌≡◌, ◌<◌, ◌≤◌, ℕ, zero, suc, ◌+◌, ◌-◌, ◌/◌, ◌%◌, ◌^◌, Bool, true, ◌&&◌, ◌==◌, nat_lt, nat_le, List, [], ◌∷◌, length, slice_index, sum_by, if◌then◌else◌}
use Rattle.std.specs.List.{prefix_len, take_while}
use Rattle.pl_relr.specs.declared.entries.TheConstants.{PLACE_SIZE, PLACES_END, SPAN}
use Rattle.pl_relr.specs.Entries.{table_of}

-- what can be packed: places that are even, ascend, are at least 8 apart, and lie below 2^47
pub record ArePackable (places : List ℕ) : Type 0 where
  pub even : (i : ℕ) → i < length places → slice_index places i % 2 ≡ 0
  pub low : (i : ℕ) → i < length places → slice_index places i < PLACES_END
  pub apart : (i : ℕ) → i + 1 < length places → slice_index places i + PLACE_SIZE ≤ slice_index places (i + 1)

-- whether a place is even, below 2^47, and not before an address
abbrev pub follows : ℕ → ℕ → Bool
follows next place = nat_le next place && nat_lt place PLACES_END && place % 2 == 0

-- whether places can be packed, the first of them not before an address
unfoldable pub is_packable_from : ℕ → List ℕ → Bool
is_packable_from next [] = true
is_packable_from next (place ∷ places) = follows next place && is_packable_from (place + PLACE_SIZE) places

-- the same as a test
unfoldable pub is_packable : List ℕ → Bool
is_packable places = is_packable_from 0 places

-- whether an odd entry can name a place
abbrev pub can_name : ℕ → ℕ → Bool
can_name next place = nat_le next place && nat_lt place (next + SPAN) && (place - next) % PLACE_SIZE == 0

-- the bit that stands for a place
abbrev pub bit_of : ℕ → ℕ → ℕ
bit_of next place = (place - next) / PLACE_SIZE + 1

-- the odd entry that names places
unfoldable pub odd_entry : ℕ → List ℕ → ℕ
odd_entry next places = sum_by (λ place. 2 ^ bit_of next place) places + 1

-- how many of the first places the next odd entry names
abbrev pub named_count : ℕ → List ℕ → ℕ
named_count next places = prefix_len (can_name next) places

-- the entries for places, so many of which the entry before names already
unfoldable pub packed_from : ℕ → ℕ → List ℕ → List ℕ
packed_from next named [] = []
packed_from next (suc named) (place ∷ places) = packed_from next named places
packed_from next zero (place ∷ places) =
    if can_name next place
    then odd_entry next (take_while (can_name next) (place ∷ places)) ∷ packed_from (next + SPAN) (named_count next places) places
    else place ∷ packed_from (place + PLACE_SIZE) zero places

-- the entries for places
unfoldable pub packed_entries : List ℕ → List ℕ
packed_entries [] = []
packed_entries (place ∷ places) = place ∷ packed_from (place + PLACE_SIZE) zero places

-- the table of places
unfoldable pub packed : List ℕ → List ℕ
packed places = table_of (packed_entries places)
