-- Tables of rows whose words move with a library, and how a number is added to them.
use Rattle.std.specs.Prelude.{◌≡◌, ◌<◌, ◌≤◌, ℕ, zero, suc, ◌+◌, ◌-◌, ◌*◌, ◌%◌, ◌^◌, Bool, true, false, ◌&&◌, not, ◌==◌, nat_lt, List, [], ◌∷◌, ◌++◌, length, take, drop, slice_index, if◌then◌else◌}
use Rattle.pl_base.specs.Bytes.{IsBytes, part, put, byte, word16, word32, word64, bytes64}
use Rattle.pl_base.specs.Sums.{plus}
use Rattle.pl_base.specs.Windows.{Window, on}
use Rattle.pl_dyn.specs.Kinds.{is_address_tag}
use Rattle.pl_elf.specs.Headers.{is_moved_kind}
use Rattle.pl_move.specs.declared.kind.RowKind.{RowKind}
use Rattle.pl_move.specs.declared.kind.RowKind.TheVariants.{Entry, SegmentAddress, PhysicalAddress, TagValue, SymbolValue, RelocationPlace, RelativeAddend, PackedAddress}
use Rattle.pl_move.specs.declared.table.Table.{Table}

-- a number added to a word, modulo 2^64
unfoldable pub add8 : ℕ → ℕ → List ℕ → List ℕ
add8 at more bytes = put at (bytes64 (plus (word64 at bytes) more)) bytes

-- so many rows of one size, each changed; what follows them stays
unfoldable pub rows : ℕ → (List ℕ → List ℕ) → ℕ → List ℕ → List ℕ
rows size f zero bytes = bytes
rows size f (suc n) bytes = f (take size bytes) ++ rows size f n (drop size bytes)

-- What moves: of each kind of row its size, where its word stands, and whether the word moves.

abbrev pub row_size : RowKind → ℕ
row_size Entry = 64
row_size SegmentAddress = 56
row_size PhysicalAddress = 56
row_size TagValue = 16
row_size SymbolValue = 24
row_size RelocationPlace = 24
row_size RelativeAddend = 24
row_size PackedAddress = 8

abbrev pub word_offset : RowKind → ℕ
word_offset Entry = 24
word_offset SegmentAddress = 16
word_offset PhysicalAddress = 24
word_offset TagValue = 8
word_offset SymbolValue = 8
word_offset RelocationPlace = 0
word_offset RelativeAddend = 16
word_offset PackedAddress = 0

abbrev pub has_section : ℕ → Bool
has_section section = nat_lt 0 section && nat_lt section 0xff00

-- the header is listed only where its entry moves
abbrev pub moves : RowKind → List ℕ → Bool
moves Entry row = true
moves SegmentAddress row = is_moved_kind (word32 0 row)
moves PhysicalAddress row = is_moved_kind (word32 0 row)
moves TagValue row = is_address_tag (word64 0 row)
moves SymbolValue row = has_section (word16 6 row) && not (byte 4 row % 16 == 6)
moves RelocationPlace row = not (word32 8 row == 0)
moves RelativeAddend row = word32 8 row == 8
moves PackedAddress row = word64 0 row % 2 == 0

unfoldable pub row_moved : ℕ → RowKind → List ℕ → List ℕ
row_moved more kind row = if moves kind row then add8 (word_offset kind) more row else row

abbrev pub table_window : Table → Window
table_window t = record { at = t.at; size = row_size t.kind * t.count }

abbrev pub table_windows : List Table → List Window
table_windows [] = []
table_windows (t ∷ ts) = table_window t ∷ table_windows ts

-- what is added: a number of 64 bits that is even, so that it does not tell which packed entries are
abbrev pub IsSlot : ℕ → Type 0
IsSlot slot = (slot ≤ 2 ^ 64) × (slot % 2 ≡ 0)

-- one table moved, all tables, and all of them in the other order
unfoldable pub moved : ℕ → Table → List ℕ → List ℕ
moved more t bytes = on (table_window t) (rows (row_size t.kind) (row_moved more t.kind) t.count) bytes

unfoldable pub all_moved : ℕ → List Table → List ℕ → List ℕ
all_moved more [] bytes = bytes
all_moved more (t ∷ ts) bytes = all_moved more ts (moved more t bytes)

unfoldable pub all_back : ℕ → List Table → List ℕ → List ℕ
all_back less [] bytes = bytes
all_back less (t ∷ ts) bytes = moved (2 ^ 64 - less) t (all_back less ts bytes)
