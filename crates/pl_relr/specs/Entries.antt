-- The entries of a table of packed relative relocations (gABI, "Relative Relocation Table": SHT_RELR, DT_RELR), words of 64 bits.
use Rattle.std.specs.Prelude.{ℕ, ◌*◌, ◌/◌, ◌%◌, Bool, ◌==◌, List, length, map}
use Rattle.std.specs.List.{range_with_len, flat_map}
use Rattle.pl_base.specs.Bytes.{word64, bytes64}
use Rattle.pl_relr.specs.declared.entries.TheConstants.{ENTRY_SIZE}

-- the entry at an index
abbrev pub entry : List ℕ → ℕ → ℕ
entry table index = word64 (ENTRY_SIZE * index) table

-- how many whole entries there are
abbrev pub entry_count : List ℕ → ℕ
entry_count table = length table / ENTRY_SIZE

-- all whole entries, in the order of the table
unfoldable pub entries : List ℕ → List ℕ
entries table = map (entry table) (range_with_len 0 (entry_count table))

-- the bytes of entries
unfoldable pub table_of : List ℕ → List ℕ
table_of entries = flat_map bytes64 entries

-- an even entry names a place, an odd one has a bit for each of the next 63 places
abbrev pub is_even : ℕ → Bool
is_even entry = entry % 2 == 0
