-- Reading a journal from left to right.
use Rattle.std.specs.Prelude.{ℕ, zero, suc, Bool, true, false, nat_lt, ◌==◌, List, [], ◌∷◌, length, take, drop, Option, Some, None, Result, Ok, Err, if◌then◌else◌}
use Rattle.std.specs.Str.{bytes_eq}
use Rattle.pl_base.specs.Answers.{◌>>=◌}
use Rattle.pl_base.specs.Bytes.{word32}
use Rattle.pl_journal.specs.Names.{is_row_name}
use Rattle.pl_journal.specs.Spelling.{are_rows}
use Rattle.pl_journal.specs.declared.constants.TheConstants.{DROP, MAGIC, MAX_ROWS, PUT}
use Rattle.pl_journal.specs.declared.fault.JournalFault.{JournalFault}
use Rattle.pl_journal.specs.declared.fault.JournalFault.TheVariants.{Failed, BadJournal, NoMemory}
use Rattle.pl_journal.specs.declared.row.Row.{Row}
use Rattle.pl_journal.specs.declared.row.Row.TheVariants.{Put, Drop}

abbrev pub is_memory : JournalFault → Bool
is_memory NoMemory = true
is_memory BadJournal = false
is_memory Failed = false

-- each reading of a field gives a value and the bytes after it
unfoldable pub number32_at : List ℕ → Result (ℕ × List ℕ) JournalFault
number32_at bytes = if nat_lt (length bytes) 4 then Err BadJournal else Ok (word32 0 bytes, drop 4 bytes)

unfoldable pub name_of_size : ℕ → List ℕ → Result (List ℕ × List ℕ) JournalFault
name_of_size size bytes =
    if nat_lt (length bytes) size then Err BadJournal else (if is_row_name (take size bytes) then Ok (take size bytes, drop size bytes) else Err BadJournal)

unfoldable pub name_at : List ℕ → Result (List ℕ × List ℕ) JournalFault
name_at [] = Err BadJournal
name_at (size ∷ rest) = name_of_size size rest

unfoldable pub row_of_kind : ℕ → List ℕ → Result Row JournalFault
row_of_kind kind name = if kind == PUT then Ok (Put name) else (if kind == DROP then Ok (Drop name) else Err BadJournal)

unfoldable pub row_at : List ℕ → Result (Row × List ℕ) JournalFault
row_at [] = Err BadJournal
row_at (kind ∷ bytes) = do
  name ← name_at bytes
  row ← row_of_kind kind name.0
  Ok (row, name.1)

unfoldable pub rows_at : ℕ → List ℕ → Result (List Row × List ℕ) JournalFault
rows_at zero bytes = Ok ([], bytes)
rows_at (suc n) bytes = do
  first ← row_at bytes
  others ← rows_at n first.1
  Ok (first.0 ∷ others.0, others.1)

-- the bytes behind the magic
unfoldable pub behind_magic : List ℕ → Result (List ℕ) JournalFault
behind_magic bytes = if bytes_eq (take 8 bytes) MAGIC then Ok (drop 8 bytes) else Err BadJournal

-- so many rows, and nothing behind them
unfoldable pub all_rows : ℕ → List ℕ → Result (List Row) JournalFault
all_rows count bytes =
    if nat_lt MAX_ROWS count then Err BadJournal else (rows_at count bytes >>= λ rows. if length rows.1 == 0 then Ok rows.0 else Err BadJournal)

unfoldable pub fields : List ℕ → Result (List Row) JournalFault
fields bytes = do
  counted ← behind_magic bytes
  count ← number32_at counted
  all_rows count.0 count.1

abbrev pub checked : List Row → Result (List Row) JournalFault
checked rows = if are_rows rows then Ok rows else Err BadJournal

-- what bytes say as a journal
unfoldable pub read : List ℕ → Result (List Row) JournalFault
read bytes = fields bytes >>= checked

abbrev pub ok_of : {X : Type 0} → Result X JournalFault → Option X
ok_of (Ok x) = Some x
ok_of (Err fault) = None

-- the rows that bytes spell
unfoldable pub rows_spelled : List ℕ → Option (List Row)
rows_spelled bytes = ok_of (read bytes)
