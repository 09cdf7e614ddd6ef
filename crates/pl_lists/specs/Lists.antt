-- The grammar of a library list: a table of rows, and the strings where the rows' names stand.
use Rattle.std.specs.Prelude.{◌≡◌, ℕ, ◌+◌, ◌^◌, Bool, true, ◌&&◌, not, nat_lt, List, [], ◌∷◌, ◌++◌, length}
use Rattle.std.specs.List.{flat_map, list_all, list_any}
use Rattle.std.specs.Str.{bytes_eq}
use Rattle.pl_base.specs.Bytes.{bytes32}
use Rattle.pl_base.specs.Names.{is_valid_name}
use Rattle.pl_lists.specs.declared.list_row.ListRow.{ListRow}

-- ---- the spelling

-- a row's name, ended by a 0
abbrev pub ended_name : ListRow → List ℕ
ended_name row = row.name ++ 0 ∷ []

-- the strings of a list: each name, ended by a 0
unfoldable pub list_strings : List ListRow → List ℕ
list_strings rows = flat_map ended_name rows

-- where the next name begins, after a row's name that begins at an offset
abbrev pub after : ℕ → ListRow → ℕ
after at row = at + (length row.name + 1)

-- a row: where its name begins, the stamp, the checksum, and two zeros
unfoldable pub row_bytes : ℕ → ListRow → List ℕ
row_bytes at row = bytes32 at ++ bytes32 row.stamp ++ bytes32 row.checksum ++ bytes32 0 ++ bytes32 0

-- the table of a list whose names begin at an offset
unfoldable pub list_bytes : ℕ → List ListRow → List ℕ
list_bytes at [] = []
list_bytes at (row ∷ rows) = row_bytes at row ++ list_bytes (after at row) rows

-- ---- what is spelled

-- a valid name, and numbers of 32 bits
unfoldable pub is_row : ListRow → Bool
is_row row = is_valid_name row.name && nat_lt row.stamp (2 ^ 32) && nat_lt row.checksum (2 ^ 32)

-- whether no two rows have one name
unfoldable pub are_distinct : List ListRow → Bool
are_distinct [] = true
are_distinct (row ∷ rows) = not (list_any (λ later. bytes_eq row.name later.name) rows) && are_distinct rows

abbrev pub is_list : List ListRow → Bool
is_list rows = list_all is_row rows && are_distinct rows

-- whether each name begins at an offset of 32 bits
unfoldable pub are_placed : ℕ → List ListRow → Bool
are_placed at [] = true
are_placed at (row ∷ rows) = nat_lt at (2 ^ 32) && are_placed (after at row) rows

-- ---- the grammar: the names are a suffix of the strings, and the table has the rows with their places there

pub record IsListOf (table strings : List ℕ) (rows : List ListRow) : Type 0 where
  pub before : List ℕ
  pub in_strings : strings ≡ before ++ list_strings rows
  pub in_table : table ≡ list_bytes (length before) rows
  pub placed : are_placed (length before) rows ≡ true
  pub is_spelled : is_list rows ≡ true
