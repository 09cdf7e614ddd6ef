-- What bytes spell: the rows that stand there, or the refusal of bytes that are in no grammar.
use Rattle.std.specs.Prelude.{ℕ, ◌+◌, ◌*◌, ◌-◌, ◌/◌, ◌%◌, Bool, true, false, not, ◌&&◌, ◌==◌, nat_lt, nat_le, if◌then◌else◌, List, [], ◌∷◌, length, Result, Ok}
use Rattle.std.specs.List.{range_with_len}
use Rattle.pl_base.specs.Answers.{◌>>=◌, refuse, unless}
use Rattle.pl_base.specs.Bytes.{byte, word32, word64, part}
use Rattle.pl_base.specs.Each.{each}
use Rattle.pl_base.specs.Names.{is_valid_name}
use Rattle.pl_lists.specs.declared.constants.TheConstants.{LIST_ROW_SIZE, CONFLICT_SIZE, CONFLICT_INFO}
use Rattle.pl_lists.specs.declared.list_row.ListRow.{ListRow}
use Rattle.pl_lists.specs.declared.conflict_row.ConflictRow.{ConflictRow}
use Rattle.pl_lists.specs.declared.fault.ListFault.{ListFault}
use Rattle.pl_lists.specs.declared.fault.ListFault.TheVariants.{BadList, NoMemory}
use Rattle.pl_lists.specs.Lists.{are_distinct}
use Rattle.pl_lists.specs.Conflicts.{ascend}

abbrev pub is_memory : ListFault → Bool
is_memory NoMemory = true
is_memory BadList = false

-- ---- library lists

-- where the name of the row at an index begins; the name after the last would begin at the end of the strings
unfoldable pub start_at : List ℕ → List ℕ → ℕ → ℕ
start_at table strings index = if nat_lt (LIST_ROW_SIZE * index) (length table) then word32 (LIST_ROW_SIZE * index) table else length strings

-- whether bytes of the strings are a name and its 0
unfoldable pub is_ended : ℕ → ℕ → List ℕ → Bool
is_ended start end strings = nat_lt start end && nat_le end (length strings) && byte (end - 1) strings == 0

-- whether the row that begins at an offset ends with two zeros
unfoldable pub has_zeros : ℕ → List ℕ → Bool
has_zeros at table = word32 (at + 12) table == 0 && word32 (at + 16) table == 0

unfoldable pub checked_name : List ℕ → Result (List ℕ) ListFault
checked_name name = unless (not (is_valid_name name)) BadList (Ok name)

abbrev pub named : ℕ → List ℕ → List ℕ → Result ListRow ListFault
named at table name = Ok (record { name = name; stamp = word32 (at + 4) table; checksum = word32 (at + 8) table })

-- the row that begins at an offset, whose name and its 0 are the bytes of the strings from start up to end
unfoldable pub row_between : List ℕ → List ℕ → ℕ → ℕ → ℕ → Result ListRow ListFault
row_between table strings at start end =
    refuse ((not (is_ended start end strings), BadList) ∷ (not (has_zeros at table), BadList) ∷ [])
    (checked_name (part start (end - 1 - start) strings) >>= named at table)

-- the row at an index: its name goes up to where the next one begins
unfoldable pub row_at : List ℕ → List ℕ → ℕ → Result ListRow ListFault
row_at table strings index = row_between table strings (LIST_ROW_SIZE * index) (start_at table strings index) (start_at table strings (index + 1))

abbrev pub rows_of : List ℕ → List ℕ → Result (List ListRow) ListFault
rows_of table strings = each (row_at table strings) (range_with_len 0 (length table / LIST_ROW_SIZE))

abbrev pub with_distinct : List ListRow → Result (List ListRow) ListFault
with_distinct rows = unless (not (are_distinct rows)) BadList (Ok rows)

unfoldable pub list_of : List ℕ → List ℕ → Result (List ListRow) ListFault
list_of table strings =
    unless (not (length table % LIST_ROW_SIZE == 0)) BadList
    (rows_of table strings >>= with_distinct)

-- ---- conflict rows

unfoldable pub conflict_at : List ℕ → ℕ → Result ConflictRow ListFault
conflict_at table index =
    unless (not (word64 (CONFLICT_SIZE * index + 8) table == CONFLICT_INFO)) BadList
    (Ok (record { address = word64 (CONFLICT_SIZE * index) table; word = word64 (CONFLICT_SIZE * index + 16) table }))

abbrev pub conflict_rows_of : List ℕ → Result (List ConflictRow) ListFault
conflict_rows_of table = each (conflict_at table) (range_with_len 0 (length table / CONFLICT_SIZE))

abbrev pub ascending : List ConflictRow → Result (List ConflictRow) ListFault
ascending rows = unless (not (ascend rows)) BadList (Ok rows)

unfoldable pub conflicts_of : List ℕ → Result (List ConflictRow) ListFault
conflicts_of table =
    unless (not (length table % CONFLICT_SIZE == 0)) BadList
    (conflict_rows_of table >>= ascending)
