-- The rows of a journal, and their one spelling.
use Rattle.std.specs.Prelude.{◌≡◌, ℕ, ◌&&◌, Bool, true, not, nat_le, List, [], ◌∷◌, ◌++◌, length}
use Rattle.std.specs.List.{flat_map, list_all}
use Rattle.pl_base.specs.Bytes.{bytes32}
use Rattle.pl_folder.specs.Disk.{Name, same}
use Rattle.pl_journal.specs.Names.{is_row_name}
use Rattle.pl_journal.specs.declared.constants.TheConstants.{DROP, MAGIC, MAX_ROWS, PUT}
use Rattle.pl_journal.specs.declared.row.Row.{Row}
use Rattle.pl_journal.specs.declared.row.Row.TheVariants.{Put, Drop}

abbrev pub name_of : Row → Name
name_of (Put name) = name
name_of (Drop name) = name

-- one byte for what the row does
abbrev pub kind_of : Row → ℕ
kind_of (Put name) = PUT
kind_of (Drop name) = DROP

-- what the row does, one byte of length, and the name
abbrev pub row_bytes : Row → List ℕ
row_bytes row = kind_of row ∷ length (name_of row) ∷ name_of row

-- the magic, the number of rows in 32 bits, and the rows
unfoldable pub journal_bytes : List Row → List ℕ
journal_bytes rows = MAGIC ++ bytes32 (length rows) ++ flat_map row_bytes rows

-- ---- what has a spelling

abbrev pub has_name : {X : Type 0} → (X → Name) → Name → X → Bool
has_name name n x = same n (name x)

-- none of them has this name
abbrev pub misses : {X : Type 0} → (X → Name) → Name → List X → Bool
misses name n xs = list_all (λ x. not (has_name name n x)) xs

abbrev pub differ : {X : Type 0} → (X → Name) → List X → Bool
differ name [] = true
differ name (x ∷ xs) = misses name (name x) xs && differ name xs

-- at most 1025, whose names differ and are valid or the cache's
unfoldable pub are_named : {X : Type 0} → (X → Name) → List X → Bool
are_named name xs = nat_le (length xs) MAX_ROWS && list_all (λ x. is_row_name (name x)) xs && differ name xs

abbrev pub are_rows : List Row → Bool
are_rows rows = are_named name_of rows

-- what bytes are a journal of
pub record IsJournalOf (bytes : List ℕ) (rows : List Row) : Type 0 where
  pub in_bytes : bytes ≡ journal_bytes rows
  pub is_spelled : are_rows rows ≡ true
