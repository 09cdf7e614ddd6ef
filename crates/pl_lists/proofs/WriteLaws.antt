-- Rows that are written one after the other.
use Rattle.std.proofs.Common.{◌≡◌, ℕ, ◌+◌, ◌^◌, ◌<◌, ◌≤◌, true, List, [], ◌∷◌, ◌++◌, length, drop, get_or, refl, sym, ap, ◌∙◌, append_assoc, arith, length-append}
use Rattle.std.proofs.lemmas.Bool.{lt-ltb}
use Rattle.std.proofs.lemmas.List.{append-nil, at_drop_more, at_drop_all}
use Rattle.pl_lists.specs.declared.list_row.ListRow.{ListRow}
use Rattle.pl_lists.specs.declared.conflict_row.ConflictRow.{ConflictRow}
use Rattle.pl_lists.specs.Lists.{ended_name, list_strings, after, row_bytes, list_bytes, is_list, are_placed, IsListOf}
use Rattle.pl_lists.specs.Conflicts.{conflict_bytes, conflicts_bytes}

-- the rows from an index on, as one row and the rows behind it
from_here : {Y : Type 0} (f : List ListRow → Y) (rows : List ListRow) (index : ℕ) (row : ListRow) → index < length rows → row ≡ get_or rows index row → f (drop index rows) ≡ f (row ∷ drop (index + 1) rows)
from_here f rows index row lt is = at_drop_more f rows index row lt ∙ ap (λ (r : ListRow). f (r ∷ drop (index + 1) rows)) (sym is)

-- ---- the table

pub table_more : (rows : List ListRow) (index at size start : ℕ) (row : ListRow) (old new : List ℕ) → index < length rows → row ≡ get_or rows index row → size ≡ length row.name → new ≡ old ++ row_bytes at row
    → old ++ list_bytes at (drop index rows) ≡ list_bytes start rows → new ++ list_bytes (at + (size + 1)) (drop (index + 1) rows) ≡ list_bytes start rows
unfolding list_bytes
table_more rows index at size start row old new lt is size_is new_is so_far =
    rw (new_is, size_is) (append_assoc old (row_bytes at row) (list_bytes (after at row) (drop (index + 1) rows)))
    ∙ ap (λ (xs : List ℕ). old ++ xs) (sym (from_here (list_bytes at) rows index row lt is)) ∙ so_far

pub table_done : (rows : List ListRow) (index at start : ℕ) (table : List ℕ) → length rows ≤ index → table ++ list_bytes at (drop index rows) ≡ list_bytes start rows → table ≡ list_bytes start rows
unfolding list_bytes
table_done rows index at start table le so_far = sym (append-nil table) ∙ ap (λ (xs : List ℕ). table ++ xs) (sym (at_drop_all (list_bytes at) rows index le)) ∙ so_far

-- the strings of a row and of those behind it
pub strings_step : (row : ListRow) (rows : List ListRow) → list_strings (row ∷ rows) ≡ row.name ++ 0 ∷ list_strings rows
unfolding list_strings
strings_step row rows = append_assoc row.name (0 ∷ []) (list_strings rows)

-- the strings that follow a row's name are so much shorter
pub room_more : (rows : List ListRow) (index at size whole : ℕ) (row : ListRow) → index < length rows → row ≡ get_or rows index row → size ≡ length row.name
    → at + length (list_strings (drop index rows)) ≡ whole → at + (size + 1) + length (list_strings (drop (index + 1) rows)) ≡ whole
room_more rows index at size whole row lt is size_is so_far =
    let one : length (list_strings (drop index rows)) ≡ length (row.name ++ 0 ∷ list_strings (drop (index + 1) rows)) = from_here (λ rs. length (list_strings rs)) rows index row lt is ∙ ap length (strings_step row (drop (index + 1) rows)) in
    omega (arith, one, length-append row.name (0 ∷ list_strings (drop (index + 1) rows)), size_is, so_far)

-- ---- the strings

pub names_more : (rows : List ListRow) (index : ℕ) (row : ListRow) (old new : List ℕ) → index < length rows → row ≡ get_or rows index row → new ≡ old ++ ended_name row
    → old ++ list_strings (drop index rows) ≡ list_strings rows → new ++ list_strings (drop (index + 1) rows) ≡ list_strings rows
unfolding list_strings
names_more rows index row old new lt is new_is so_far =
    let later = list_strings (drop (index + 1) rows) in
    rw new_is (append_assoc old (ended_name row) later)
    ∙ ap (λ (xs : List ℕ). old ++ xs) (sym (from_here list_strings rows index row lt is)) ∙ so_far

pub names_done : (rows : List ListRow) (index : ℕ) (names : List ℕ) → length rows ≤ index → names ++ list_strings (drop index rows) ≡ list_strings rows → names ≡ list_strings rows
unfolding list_strings
names_done rows index names le so_far = sym (append-nil names) ∙ ap (λ (xs : List ℕ). names ++ xs) (sym (at_drop_all list_strings rows index le)) ∙ so_far

-- ---- both are the grammar's

names_placed : (at : ℕ) (rows : List ListRow) → at + length (list_strings rows) < 2 ^ 32 → are_placed at rows ≡ true
unfolding are_placed
names_placed at [] small = refl
names_placed at (row ∷ rows) small =
    let size = ap length (strings_step row rows) ∙ length-append row.name (0 ∷ list_strings rows) in
    rw (lt-ltb at (2 ^ 32) (omega (arith, size, small)), names_placed (after at row) rows (omega (arith, size, small))) refl

pub is_list_of : (before table strings : List ℕ) (rows : List ListRow) → length before + length (list_strings rows) < 2 ^ 32 → table ≡ list_bytes (length before) rows → strings ≡ before ++ list_strings rows
    → is_list rows ≡ true → IsListOf table strings rows
is_list_of before table strings rows small table_is strings_is spelled =
    record { before = before; in_strings = strings_is; in_table = table_is; placed = names_placed (length before) rows small; is_spelled = spelled }

-- ---- conflict rows

pub conflicts_more : (rows : List ConflictRow) (index : ℕ) (d : ConflictRow) (old new : List ℕ) → index < length rows → new ≡ old ++ conflict_bytes (get_or rows index d)
    → old ++ conflicts_bytes (drop index rows) ≡ conflicts_bytes rows → new ++ conflicts_bytes (drop (index + 1) rows) ≡ conflicts_bytes rows
unfolding conflicts_bytes
conflicts_more rows index d old new lt new_is so_far =
    rw new_is (append_assoc old (conflict_bytes (get_or rows index d)) (conflicts_bytes (drop (index + 1) rows)))
    ∙ ap (λ (xs : List ℕ). old ++ xs) (sym (at_drop_more conflicts_bytes rows index d lt)) ∙ so_far

pub conflicts_done : (rows : List ConflictRow) (index : ℕ) (table : List ℕ) → length rows ≤ index → table ++ conflicts_bytes (drop index rows) ≡ conflicts_bytes rows → table ≡ conflicts_bytes rows
unfolding conflicts_bytes
conflicts_done rows index table le so_far = sym (append-nil table) ∙ ap (λ (xs : List ℕ). table ++ xs) (sym (at_drop_all conflicts_bytes rows index le)) ∙ so_far
