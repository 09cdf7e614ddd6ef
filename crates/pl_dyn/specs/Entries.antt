-- The entries of a dynamic table, as they stand in its bytes (gABI chapter 5, "Dynamic Section").
use Rattle.std.specs.Prelude.{◌≡◌, ℕ, ◌+◌, ◌*◌, ◌/◌, ◌%◌, Bool, ◌&&◌, ◌==◌, nat_lt, ◌<◌, List, Some, map, drop, length, slice_get, count_by}
use Rattle.std.specs.List.{range_with_len, list_all, before_first, position_or_len}
use Rattle.pl_base.specs.Bytes.{word64}
use Rattle.pl_dyn.specs.declared.constants.TheConstants.{DT_NULL, ENTRY_SIZE}
use Rattle.pl_dyn.specs.declared.tags.Tag.{Tag}

-- the entry at an index
abbrev pub entry : List ℕ → ℕ → Tag
entry table index = record { number = word64 (ENTRY_SIZE * index) table; value = word64 (ENTRY_SIZE * index + 8) table }

-- all whole entries, in the order of the table
unfoldable pub entries : List ℕ → List Tag
entries table = map (entry table) (range_with_len 0 (length table / ENTRY_SIZE))

-- an entry that ends a table
abbrev pub is_null : Tag → Bool
is_null tag = tag.number == DT_NULL

-- the entries before the first of tag DT_NULL
unfoldable pub tags : List ℕ → List Tag
tags table = before_first is_null (entries table)

-- the entries from the first of tag DT_NULL on have that tag
unfoldable pub only_nulls_follow : List ℕ → Bool
only_nulls_follow table = list_all is_null (drop (position_or_len is_null (entries table)) (entries table))

-- how many entries have the tag DT_NULL
unfoldable pub null_count : List ℕ → ℕ
null_count table = count_by is_null (entries table)

-- the size is a multiple of an entry's, there is an entry of tag DT_NULL, and none of another tag follows it
unfoldable pub is_ended : List ℕ → Bool
is_ended table = length table % ENTRY_SIZE == 0 && nat_lt 0 (null_count table) && only_nulls_follow table

-- tags stand in a table at their own indexes
abbrev pub AreEntries : List ℕ → List Tag → Type 0
AreEntries table tags = (i : ℕ) → i < length tags → slice_get tags i ≡ Some (entry table i)

-- the tags and the entries of tag DT_NULL are all that a table has
abbrev pub IsWhole : List ℕ → Type 0
IsWhole table = ENTRY_SIZE * (length (tags table) + null_count table) ≡ length table
