-- Conflict rows that are read are spelled so, and those that are spelled so are read.
use Rattle.std.proofs.Common.{◌≡◌, ℕ, zero, suc, ◌+◌, ◌-◌, ◌*◌, ◌/◌, ◌%◌, ◌^◌, ◌<◌, ◌≤◌, true, false, ◌&&◌, ◌==◌, nat_lt, List, [], ◌∷◌, ◌++◌, length, drop, get_or, Result, Ok, Err, refl, sym, ap, subst, ◌∙◌, append_assoc, arith, drop-cons, length-append, length-drop}
use Rattle.std.specs.List.{list_all, range_with_len}
use Rattle.std.specs.Prelude.{IfOk}
use Rattle.std.proofs.lemmas.Bool.{and_parts, lt-ltb, le-ltb, ltb-true, eqb-true}
use Rattle.std.proofs.lemmas.List.{drop-drop, drop_at, drop_all}
use Rattle.pl_base.specs.Answers.{◌>>=◌, Answers}
use Rattle.pl_base.specs.Bytes.{IsBytes, word64, bytes64}
use Rattle.pl_base.specs.Each.{each}
use Rattle.pl_base.proofs.AnswerLaws.{bind_ok, refuse_ok, ok_same}
use Rattle.pl_base.proofs.WordLaws.{word64_below, word64_back, split64, length_bytes64}
use Rattle.pl_lists.specs.declared.constants.TheConstants.{CONFLICT_INFO}
use Rattle.pl_lists.specs.declared.conflict_row.ConflictRow.{ConflictRow}
use Rattle.pl_lists.specs.declared.fault.ListFault.{ListFault}
use Rattle.pl_lists.specs.declared.fault.ListFault.TheVariants.{BadList}
use Rattle.pl_lists.specs.Conflicts.{conflict_bytes, conflicts_bytes, is_conflict, ascend, AreConflictsOf}
use Rattle.pl_lists.specs.Reading.{is_memory, conflict_at, conflict_rows_of, ascending, conflicts_of}
use Rattle.pl_lists.proofs.FieldLaws.{word64_drop, behind64}

-- ---- addresses, pair by pair

row_before : (rows : List ConflictRow) (index : ℕ) (d : ConflictRow) → 0 < index → index ≤ length rows → drop (index - 1) rows ≡ get_or rows (index - 1) d ∷ drop index rows
row_before rows index d some within =
    let next : suc (index - 1) ≡ index = omega arith in
    rw (drop-cons rows (index - 1) d (omega arith), next) refl

pair : (rows : List ConflictRow) (index : ℕ) (d : ConflictRow) → 0 < index → index < length rows
    → ascend (drop (index - 1) rows) ≡ (nat_lt (get_or rows (index - 1) d).address (get_or rows index d).address && ascend (drop index rows))
unfolding ascend
pair rows index d some within = rw (row_before rows index d some (omega arith), drop-cons rows index d within) refl

pub ascend_more : (rows : List ConflictRow) (index : ℕ) (d : ConflictRow) → 0 < index → index < length rows → (get_or rows (index - 1) d).address < (get_or rows index d).address
    → ascend (drop (index - 1) rows) ≡ ascend rows → ascend (drop (index + 1 - 1) rows) ≡ ascend rows
ascend_more rows index d some within lt so_far =
    let same : index + 1 - 1 ≡ index = omega arith in
    rw same (sym (pair rows index d some within ∙ rw (lt-ltb _ _ lt) refl) ∙ so_far)

pub ascend_stops : (rows : List ConflictRow) (index : ℕ) (d : ConflictRow) → 0 < index → index < length rows → (get_or rows index d).address ≤ (get_or rows (index - 1) d).address
    → ascend (drop (index - 1) rows) ≡ ascend rows → false ≡ ascend rows
ascend_stops rows index d some within le so_far = sym (pair rows index d some within ∙ rw (le-ltb _ _ le) refl) ∙ so_far

one_ascends : (rows : List ConflictRow) → length rows ≤ 1 → ascend rows ≡ true
unfolding ascend
one_ascends [] le = refl
one_ascends (row ∷ []) le = refl
one_ascends (row ∷ next ∷ later) le = let none : ⊥ = omega (arith, le) in absurd none

pub ascend_ends : (rows : List ConflictRow) (index : ℕ) → 0 < index → length rows ≤ index → ascend (drop (index - 1) rows) ≡ ascend rows → true ≡ ascend rows
ascend_ends rows index some past so_far = sym (one_ascends (drop (index - 1) rows) (omega (arith, length-drop (index - 1) rows))) ∙ so_far

-- ---- rows that are read

row_split : (table : List ℕ) (at : ℕ) (row : ConflictRow) → IsBytes table → at + 24 ≤ length table → word64 at table ≡ row.address → word64 (at + 8) table ≡ CONFLICT_INFO → word64 (at + 16) table ≡ row.word
    → drop at table ≡ conflict_bytes row ++ drop (at + 24) table
unfolding conflict_bytes
row_split table at row bytes within e0 e8 e16 =
    let s0 = split64 at (at + 8) table bytes refl (omega arith) in
    let s8 = split64 (at + 8) (at + 16) table bytes (omega arith) (omega arith) in
    let s16 = split64 (at + 16) (at + 24) table bytes (omega arith) (omega arith) in
    rw (s0, s8, s16, e0, e8, e16) (simp append_assoc)

length_conflict_bytes : (row : ConflictRow) → length (conflict_bytes row) ≡ 24
unfolding conflict_bytes
length_conflict_bytes row = simp (length-append, length_bytes64) refl

-- these rows from an index on are spelled by what is left of the table
record AreRows (table : List ℕ) (index : ℕ) (rows : List ConflictRow) : Type 0 where
  in_table : drop (24 * index) table ≡ conflicts_bytes rows
  are_rows : list_all is_conflict rows ≡ true

one_found : (table : List ℕ) (index : ℕ) (row : ConflictRow) (rows : List ConflictRow) → IsBytes table → 24 * (index + 1) ≤ length table → conflict_at table index ≡ Ok row
    → AreRows table (index + 1) rows → AreRows table index (row ∷ rows)
unfolding conflict_at conflicts_bytes is_conflict
one_found table index row rows bytes within e later =
    let found : ConflictRow = record { address = word64 (24 * index) table; word = word64 (24 * index + 16) table } in
    let t = refuse_ok (word64 (24 * index + 8) table == CONFLICT_INFO) BadList (Ok found) row e in
    let next : 24 * index + 24 ≡ 24 * (index + 1) = omega arith in
    let split : drop (24 * index) table ≡ conflict_bytes found ++ drop (24 * (index + 1)) table =
    row_split table (24 * index) found bytes (omega (arith, within)) refl (eqb-true _ _ t.0) refl ∙ ap (λ (n : ℕ). conflict_bytes found ++ drop n table) next in
    subst (λ (r : ConflictRow). AreRows table index (r ∷ rows)) (ok_same found row t.1) (record {
      in_table = split ∙ ap (λ (xs : List ℕ). conflict_bytes found ++ xs) later.in_table;
      are_rows = rw (lt-ltb _ _ (word64_below (24 * index) table bytes), lt-ltb _ _ (word64_below (24 * index + 16) table bytes)) later.are_rows;
    })

all_found : (count index : ℕ) (table : List ℕ) (rows : List ConflictRow) → IsBytes table → 24 * (index + count) ≡ length table → each (conflict_at table) (range_with_len index count) ≡ Ok rows → AreRows table index rows
unfolding each conflicts_bytes
all_found zero index table [] bytes size e = record { in_table = drop_all (24 * index) table (omega (arith, size)); are_rows = refl }
all_found zero index table (row ∷ rows) bytes size e = absurd cc
all_found (suc count) index table rows bytes size e =
    let one = bind_ok (conflict_at table index) (λ row. each (conflict_at table) (range_with_len (index + 1) count) >>= λ later. Ok (row ∷ later)) rows e in
    let more = bind_ok (each (conflict_at table) (range_with_len (index + 1) count)) (λ later. Ok (one.0 ∷ later)) rows one.2 in
    let later = all_found count (index + 1) table more.0 bytes (omega (arith, size)) more.1 in
    subst (λ (rs : List ConflictRow). AreRows table index rs) (ok_same (one.0 ∷ more.0) rows more.2)
    (one_found table index one.0 more.0 bytes (omega (arith, size)) one.1 later)

is_found : (table : List ℕ) (rows : List ConflictRow) → IsBytes table → conflicts_of table ≡ Ok rows → AreConflictsOf table rows
unfolding conflicts_of
is_found table rows bytes e =
    let whole = refuse_ok (length table % 24 == 0) BadList (conflict_rows_of table >>= ascending) rows e in
    let size : length table % 24 ≡ 0 = eqb-true _ _ whole.0 in
    let b = bind_ok (conflict_rows_of table) ascending rows whole.1 in
    let d = refuse_ok (ascend b.0) BadList (Ok b.0) rows b.2 in
    let found = all_found (length table / 24) 0 table b.0 bytes (omega (arith, size)) b.1 in
    subst (λ (rs : List ConflictRow). AreConflictsOf table rs) (ok_same b.0 rows d.1) (record { in_table = found.in_table; is_spelled = rw (found.are_rows, d.0) refl })

pub answer_found : (table : List ℕ) (answer : Result (List ConflictRow) ListFault) → IsBytes table → Answers is_memory answer (conflicts_of table) → IfOk answer (AreConflictsOf table)
answer_found table (Ok rows) bytes meant = is_found table rows bytes meant
answer_found table (Err fault) bytes meant = tt

-- ---- rows as they are spelled

flat_row : (row : ConflictRow) (rest : List ℕ) → conflict_bytes row ++ rest ≡ bytes64 row.address ++ (bytes64 CONFLICT_INFO ++ (bytes64 row.word ++ rest))
unfolding conflict_bytes
flat_row row rest = simp append_assoc

one_again : (table : List ℕ) (index : ℕ) (row : ConflictRow) (rest : List ℕ) → is_conflict row ≡ true → drop (24 * index) table ≡ conflict_bytes row ++ rest → conflict_at table index ≡ Ok row
unfolding conflict_at is_conflict
one_again table index row rest small there =
    let s = and_parts (nat_lt row.address (2 ^ 64)) (nat_lt row.word (2 ^ 64)) small in
    let r16 = bytes64 row.word ++ rest in
    let r8 = bytes64 CONFLICT_INFO ++ r16 in
    let word : (k : ℕ) → word64 (24 * index + k) table ≡ word64 k (bytes64 row.address ++ r8) = λ k. word64_drop (24 * index) k table ∙ ap (word64 k) (there ∙ flat_row row rest) in
    let address : word64 (24 * index) table ≡ row.address = ap (λ (n : ℕ). word64 n table) (sym (omega arith)) ∙ word 0 ∙ word64_back row.address r8 (ltb-true _ _ s.0) in
    let info : word64 (24 * index + 8) table ≡ CONFLICT_INFO = word 8 ∙ behind64 0 row.address r8 ∙ word64_back CONFLICT_INFO r16 (omega arith) in
    let last : word64 (24 * index + 16) table ≡ row.word = word 16 ∙ behind64 8 row.address r8 ∙ behind64 0 CONFLICT_INFO r16 ∙ word64_back row.word rest (ltb-true _ _ s.1) in
    rw (info, address, last) refl

all_again : (rows : List ConflictRow) (index : ℕ) (table : List ℕ) → list_all is_conflict rows ≡ true → drop (24 * index) table ≡ conflicts_bytes rows
    → each (conflict_at table) (range_with_len index (length rows)) ≡ Ok rows
unfolding each conflicts_bytes
all_again [] index table small there = refl
all_again (row ∷ rows) index table small there =
    let s = and_parts (is_conflict row) (list_all is_conflict rows) small in
    let next : 24 * index + 24 ≡ 24 * (index + 1) = omega arith in
    let rest : drop (24 * (index + 1)) table ≡ conflicts_bytes rows =
    ap (λ (n : ℕ). drop n table) (sym next) ∙ sym (drop-drop 24 (24 * index) table) ∙ ap (drop 24) there ∙ drop_at (conflict_bytes row) (conflicts_bytes rows) 24 (length_conflict_bytes row) in
    rw (one_again table index row (conflicts_bytes rows) s.0 there, all_again rows (index + 1) table s.1 rest) refl

length_conflicts_bytes : (rows : List ConflictRow) → length (conflicts_bytes rows) ≡ 24 * length rows
unfolding conflicts_bytes
length_conflicts_bytes [] = refl
length_conflicts_bytes (row ∷ rows) = length-append (conflict_bytes row) (conflicts_bytes rows) ∙ rw (length_conflict_bytes row, length_conflicts_bytes rows) (omega arith)

pub is_read : (table : List ℕ) (rows : List ConflictRow) → AreConflictsOf table rows → conflicts_of table ≡ Ok rows
unfolding conflicts_of
is_read table rows of =
    let size : length table ≡ 24 * length rows = ap length of.in_table ∙ length_conflicts_bytes rows in
    let whole : length table % 24 ≡ 0 = omega (arith, size) in
    let count : length table / 24 ≡ length rows = omega (arith, size) in
    let spelled = and_parts (list_all is_conflict rows) (ascend rows) of.is_spelled in
    rw (whole, count, all_again rows 0 table spelled.0 of.in_table, spelled.1) refl

pub is_one : (table : List ℕ) (rows others : List ConflictRow) → AreConflictsOf table rows → AreConflictsOf table others → rows ≡ others
is_one table rows others of other = ok_same rows others (sym (is_read table rows of) ∙ is_read table others other)
