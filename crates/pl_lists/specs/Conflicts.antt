-- The grammar of conflict rows: relocations with addend, at ascending addresses.
use Rattle.std.specs.Prelude.{◌≡◌, ℕ, ◌^◌, Bool, true, ◌&&◌, nat_lt, List, [], ◌∷◌, ◌++◌}
use Rattle.std.specs.List.{flat_map, list_all}
use Rattle.pl_base.specs.Bytes.{bytes64}
use Rattle.pl_lists.specs.declared.constants.TheConstants.{CONFLICT_INFO}
use Rattle.pl_lists.specs.declared.conflict_row.ConflictRow.{ConflictRow}

-- a row: the address, the info, and the word as the addend
unfoldable pub conflict_bytes : ConflictRow → List ℕ
conflict_bytes row = bytes64 row.address ++ bytes64 CONFLICT_INFO ++ bytes64 row.word

unfoldable pub conflicts_bytes : List ConflictRow → List ℕ
conflicts_bytes rows = flat_map conflict_bytes rows

-- numbers of 64 bits
unfoldable pub is_conflict : ConflictRow → Bool
is_conflict row = nat_lt row.address (2 ^ 64) && nat_lt row.word (2 ^ 64)

-- whether a row's address is below that of the next, if there is one
abbrev pub is_below : ConflictRow → List ConflictRow → Bool
is_below row [] = true
is_below row (next ∷ later) = nat_lt row.address next.address

-- whether each address is below the next
unfoldable pub ascend : List ConflictRow → Bool
ascend [] = true
ascend (row ∷ rows) = is_below row rows && ascend rows

abbrev pub are_conflicts : List ConflictRow → Bool
are_conflicts rows = list_all is_conflict rows && ascend rows

-- the grammar
pub record AreConflictsOf (table : List ℕ) (rows : List ConflictRow) : Type 0 where
  pub in_table : table ≡ conflicts_bytes rows
  pub is_spelled : are_conflicts rows ≡ true
