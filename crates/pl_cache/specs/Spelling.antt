-- What a cache is, and the one spelling of each.
use Rattle.std.specs.Prelude.{◌≡◌, ℕ, ◌+◌, ◌^◌, Bool, true, ◌&&◌, nat_le, nat_lt, List, [], ◌∷◌, ◌++◌, length, if◌then◌else◌}
use Rattle.std.specs.List.{flat_map, list_all}
use Rattle.std.specs.Ordering.{nat_cmp, is_lt}
use Rattle.std.specs.Cmp.Lexicographic.{slice_cmp}
use Rattle.pl_base.specs.Bytes.{bytes32, bytes64}
use Rattle.pl_base.specs.Names.{is_valid_name}
use Rattle.pl_base.specs.Sums.{is_aligned}
use Rattle.pl_slots.specs.declared.slot.Slot.{Slot}
use Rattle.pl_slots.specs.Apart.{are_apart}
use Rattle.pl_cache.specs.declared.cache.Cache.{Cache}
use Rattle.pl_cache.specs.declared.constants.TheConstants.{MAGIC, SHARED_MAGIC, MAX_ROWS}
use Rattle.pl_elf.specs.declared.constants.TheConstants.{PAGE, ADDRESS_LIMIT}

-- ---- the spelling

-- one byte of length, and the name
abbrev pub name_bytes : List ℕ → List ℕ
name_bytes name = length name ∷ name

-- a name, the slot's first address in 64 bits, and its span in 64 bits
abbrev pub row_bytes : Slot → List ℕ
row_bytes slot = name_bytes slot.name ++ bytes64 slot.start ++ bytes64 slot.span

-- the magic of rows: whether no two of them share an address
unfoldable pub magic_of : List Slot → List ℕ
magic_of rows = if are_apart rows then MAGIC else SHARED_MAGIC

-- the magic, the last stamp in 32 bits, the number of rows in 32 bits, and the rows
unfoldable pub cache_bytes : Cache → List ℕ
cache_bytes cache = magic_of cache.rows ++ bytes32 cache.last ++ bytes32 (length cache.rows) ++ flat_map row_bytes cache.rows

-- ---- what has a spelling

-- a row has a valid name; its address and its span are multiples of a page, the span is not 0, and the slot ends at or below the end of addresses
unfoldable pub is_row : Slot → Bool
is_row slot =
    is_valid_name slot.name && is_aligned slot.start PAGE && is_aligned slot.span PAGE && nat_lt 0 slot.span && nat_le (slot.start + slot.span) ADDRESS_LIMIT

-- whether one row's name is before another's, in the order of bytes
abbrev pub precedes : Slot → Slot → Bool
precedes a b = is_lt (slice_cmp nat_cmp a.name b.name)

abbrev pub is_followed : Slot → List Slot → Bool
is_followed slot [] = true
is_followed slot (next ∷ slots) = precedes slot next

-- the names ascend strictly
abbrev pub ascend : List Slot → Bool
ascend [] = true
ascend (slot ∷ slots) = is_followed slot slots && ascend slots

-- a cache has few rows, each as it should be, that ascend by name
unfoldable pub is_cache : Cache → Bool
is_cache cache =
    nat_lt cache.last (2 ^ 32) && nat_le (length cache.rows) MAX_ROWS && list_all is_row cache.rows && ascend cache.rows

-- ---- the grammar

pub record IsCacheOf (bytes : List ℕ) (cache : Cache) : Type 0 where
  pub in_bytes : bytes ≡ cache_bytes cache
  pub is_spelled : is_cache cache ≡ true
