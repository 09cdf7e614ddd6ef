-- A list that is read is spelled so, and a list that is spelled so is read.
use Rattle.std.proofs.Common.{◌≡◌, ℕ, zero, suc, ◌+◌, ◌-◌, ◌*◌, ◌/◌, ◌%◌, ◌^◌, ◌<◌, ◌≤◌, true, ◌==◌, nat_lt, nat_le, List, [], ◌∷◌, ◌++◌, length, take, drop, Result, Ok, Err, refl, sym, ap, subst, ◌∙◌, append_assoc, arith, take-append-drop, drop-cons, length-append, length-drop, length-take}
use Rattle.std.specs.List.{list_all, range_with_len}
use Rattle.std.proofs.lemmas.Bool.{and_parts, lt-ltb, le-ltb, le-leb, ltb-true, leb-true, eqb-true}
use Rattle.std.proofs.lemmas.List.{drop-drop, drop_at, take_at, drop_all, get_or-drop}
use Rattle.std.proofs.Math.Seq.{get_or-append_seam, drop-append-add}
use Rattle.std.specs.Prelude.{IfOk}
use Rattle.pl_base.specs.Answers.{◌>>=◌, Answers}
use Rattle.pl_base.specs.Bytes.{IsBytes, byte, word32, bytes32, part}
use Rattle.pl_base.specs.Each.{each}
use Rattle.pl_base.specs.Names.{is_valid_name}
use Rattle.pl_base.proofs.AnswerLaws.{bind_ok, refuse_ok, ok_same}
use Rattle.pl_base.proofs.WordLaws.{word32_below, word32_back, split32, length_bytes32}
use Rattle.pl_lists.specs.declared.list_row.ListRow.{ListRow}
use Rattle.pl_lists.specs.declared.fault.ListFault.{ListFault}
use Rattle.pl_lists.specs.declared.fault.ListFault.TheVariants.{BadList}
use Rattle.pl_lists.specs.Lists.{list_strings, after, row_bytes, list_bytes, is_row, are_distinct, are_placed, IsListOf}
use Rattle.pl_lists.specs.Reading.{is_memory, start_at, is_ended, has_zeros, checked_name, named, row_between, row_at, rows_of, with_distinct, list_of}
use Rattle.pl_lists.proofs.StepLaws.{refuse_two, all_three}
use Rattle.pl_lists.proofs.WriteLaws.{strings_step}
use Rattle.pl_lists.proofs.FieldLaws.{word32_drop, behind32}

-- ---- where rows begin

start_here : (table strings : List ℕ) (index : ℕ) → 20 * index < length table → start_at table strings index ≡ word32 (20 * index) table
unfolding start_at
start_here table strings index lt = rw (lt-ltb (20 * index) (length table) lt) refl

start_past : (table strings : List ℕ) (index : ℕ) → length table ≤ 20 * index → start_at table strings index ≡ length strings
unfolding start_at
start_past table strings index le = rw (le-ltb (20 * index) (length table) le) refl

-- ---- one row that is read

-- the row that stands at an offset, with its name from start up to end
record IsRow (table strings : List ℕ) (at start end : ℕ) (row : ListRow) : Type 0 where
  size : end ≡ after start row
  within : end ≤ length strings
  text : drop start strings ≡ row.name ++ 0 ∷ drop end strings
  stamp : word32 (at + 4) table ≡ row.stamp
  checksum : word32 (at + 8) table ≡ row.checksum
  zero_12 : word32 (at + 12) table ≡ 0
  zero_16 : word32 (at + 16) table ≡ 0
  valid : is_valid_name row.name ≡ true

ended : (start end : ℕ) (strings : List ℕ) → is_ended start end strings ≡ true → (start < end) × (end ≤ length strings) × (byte (end - 1) strings ≡ 0)
unfolding is_ended
ended start end strings e =
    let t = all_three (nat_lt start end) (nat_le end (length strings)) (byte (end - 1) strings == 0) e in
    (ltb-true _ _ t.0, leb-true _ _ t.1, eqb-true _ _ t.2)

zeros : (at : ℕ) (table : List ℕ) → has_zeros at table ≡ true → (word32 (at + 12) table ≡ 0) × (word32 (at + 16) table ≡ 0)
unfolding has_zeros
zeros at table e =
    let t = and_parts (word32 (at + 12) table == 0) (word32 (at + 16) table == 0) e in
    (eqb-true _ _ t.0, eqb-true _ _ t.1)

checked : (bytes name : List ℕ) → checked_name bytes ≡ Ok name → (is_valid_name bytes ≡ true) × (bytes ≡ name)
unfolding checked_name
checked bytes name e =
    let t = refuse_ok (is_valid_name bytes) BadList (Ok bytes) name e in
    (t.0, ok_same bytes name t.1)

-- strings from an offset on, cut behind a 0
cut : (strings : List ℕ) (start size end : ℕ) → end ≡ start + (size + 1) → end ≤ length strings → byte (end - 1) strings ≡ 0 → drop start strings ≡ part start size strings ++ 0 ∷ drop end strings
cut strings start size end is within zero_there =
    let last : start + size ≡ end - 1 = omega arith in
    let next : suc (end - 1) ≡ end = omega arith in
    let rest : drop size (drop start strings) ≡ 0 ∷ drop end strings =
    drop-drop size start strings ∙ ap (λ (n : ℕ). drop n strings) last ∙ drop-cons strings (end - 1) 0 (omega arith) ∙ rw (next, zero_there) refl in
    sym (take-append-drop size (drop start strings)) ∙ ap (λ (xs : List ℕ). part start size strings ++ xs) rest

row_read : (table strings : List ℕ) (at start end : ℕ) (row : ListRow) → row_between table strings at start end ≡ Ok row → IsRow table strings at start end row
unfolding row_between
row_read table strings at start end row e =
    let bytes = part start (end - 1 - start) strings in
    let t = refuse_two (is_ended start end strings) (has_zeros at table) (checked_name bytes >>= named at table) row e in
    let places = ended start end strings t.0 in
    let ends = zeros at table t.1 in
    let b = bind_ok (checked_name bytes) (named at table) row t.2 in
    let name = checked bytes b.0 b.1 in
    let size : length bytes ≡ end - 1 - start = omega (arith, places.0, places.1, length-take (end - 1 - start) (drop start strings), length-drop start strings) in
    let whole : IsRow table strings at start end (record { name = bytes; stamp = word32 (at + 4) table; checksum = word32 (at + 8) table }) = record {
      size = omega (arith, places.0, size);
      within = places.1;
      text = cut strings start (end - 1 - start) end (omega (arith, places.0)) places.1 places.2;
      stamp = refl;
      checksum = refl;
      zero_12 = ends.0;
      zero_16 = ends.1;
      valid = name.0;
    } in
    subst (λ (r : ListRow). IsRow table strings at start end r) (rw name.1 (ok_same _ row b.2)) whole

-- ---- rows as bytes

row_split : (table : List ℕ) (at start : ℕ) (row : ListRow) → IsBytes table → at + 20 ≤ length table → word32 at table ≡ start → word32 (at + 4) table ≡ row.stamp → word32 (at + 8) table ≡ row.checksum
    → word32 (at + 12) table ≡ 0 → word32 (at + 16) table ≡ 0 → drop at table ≡ row_bytes start row ++ drop (at + 20) table
unfolding row_bytes
row_split table at start row bytes within e0 e4 e8 e12 e16 =
    let s0 = split32 at (at + 4) table bytes refl (omega arith) in
    let s4 = split32 (at + 4) (at + 8) table bytes (omega arith) (omega arith) in
    let s8 = split32 (at + 8) (at + 12) table bytes (omega arith) (omega arith) in
    let s12 = split32 (at + 12) (at + 16) table bytes (omega arith) (omega arith) in
    let s16 = split32 (at + 16) (at + 20) table bytes (omega arith) (omega arith) in
    rw (s0, s4, s8, s12, s16, e0, e4, e8, e12, e16) (simp append_assoc)

length_row_bytes : (start : ℕ) (row : ListRow) → length (row_bytes start row) ≡ 20
unfolding row_bytes
length_row_bytes start row = simp (length-append, length_bytes32) refl

-- ---- all rows that are read

-- these rows from an index on are spelled by what is left of the table and of the strings
record AreRows (table strings : List ℕ) (index : ℕ) (rows : List ListRow) : Type 0 where
  in_table : drop (20 * index) table ≡ list_bytes (start_at table strings index) rows
  in_strings : drop (start_at table strings index) strings ≡ list_strings rows
  within : start_at table strings index ≤ length strings
  placed : are_placed (start_at table strings index) rows ≡ true
  are_rows : list_all is_row rows ≡ true

one_found : (table strings : List ℕ) (index : ℕ) (row : ListRow) (rows : List ListRow) → IsBytes table → 20 * (index + 1) ≤ length table → row_at table strings index ≡ Ok row
    → AreRows table strings (index + 1) rows → AreRows table strings index (row ∷ rows)
unfolding row_at list_bytes are_placed is_row
one_found table strings index row rows bytes within e later =
    let start = start_at table strings index in
    let r = row_read table strings (20 * index) start (start_at table strings (index + 1)) row e in
    let here : start ≡ word32 (20 * index) table = start_here table strings index (omega (arith, within)) in
    let next : 20 * index + 20 ≡ 20 * (index + 1) = omega arith in
    let split : drop (20 * index) table ≡ row_bytes start row ++ drop (20 * (index + 1)) table =
    row_split table (20 * index) start row bytes (omega (arith, within)) (sym here) r.stamp r.checksum r.zero_12 r.zero_16
    ∙ ap (λ (n : ℕ). row_bytes start row ++ drop n table) next in
    let small : start < 2 ^ 32 = rw here (word32_below (20 * index) table bytes) in
    let stamp : row.stamp < 2 ^ 32 = rw (← r.stamp) (word32_below (20 * index + 4) table bytes) in
    let checksum : row.checksum < 2 ^ 32 = rw (← r.checksum) (word32_below (20 * index + 8) table bytes) in
    record {
      in_table = split ∙ ap (λ (xs : List ℕ). row_bytes start row ++ xs) (later.in_table ∙ ap (λ (n : ℕ). list_bytes n rows) r.size);
      in_strings = r.text ∙ ap (λ (xs : List ℕ). row.name ++ 0 ∷ xs) later.in_strings ∙ sym (strings_step row rows);
      within = omega (arith, r.size, r.within);
      placed = rw (lt-ltb _ _ small, ← r.size) later.placed;
      are_rows = rw (r.valid, lt-ltb _ _ stamp, lt-ltb _ _ checksum) later.are_rows;
    }

all_found : (count index : ℕ) (table strings : List ℕ) (rows : List ListRow) → IsBytes table → 20 * (index + count) ≡ length table → each (row_at table strings) (range_with_len index count) ≡ Ok rows → AreRows table strings index rows
unfolding each list_bytes list_strings are_placed
all_found zero index table strings [] bytes size e =
    let past = start_past table strings index (omega (arith, size)) in
    record {
      in_table = drop_all (20 * index) table (omega (arith, size));
      in_strings = rw past (drop_all (length strings) strings (omega arith));
      within = omega (arith, past);
      placed = refl;
      are_rows = refl;
    }
all_found zero index table strings (row ∷ rows) bytes size e = absurd cc
all_found (suc count) index table strings rows bytes size e =
    let one = bind_ok (row_at table strings index) (λ row. each (row_at table strings) (range_with_len (index + 1) count) >>= λ later. Ok (row ∷ later)) rows e in
    let more = bind_ok (each (row_at table strings) (range_with_len (index + 1) count)) (λ later. Ok (one.0 ∷ later)) rows one.2 in
    let later = all_found count (index + 1) table strings more.0 bytes (omega (arith, size)) more.1 in
    subst (λ (rs : List ListRow). AreRows table strings index rs) (ok_same (one.0 ∷ more.0) rows more.2)
    (one_found table strings index one.0 more.0 bytes (omega (arith, size)) one.1 later)

pub is_found : (table strings : List ℕ) (rows : List ListRow) → IsBytes table → list_of table strings ≡ Ok rows → IsListOf table strings rows
unfolding list_of
is_found table strings rows bytes e =
    let whole = refuse_ok (length table % 20 == 0) BadList (rows_of table strings >>= with_distinct) rows e in
    let size : length table % 20 ≡ 0 = eqb-true _ _ whole.0 in
    let b = bind_ok (rows_of table strings) with_distinct rows whole.1 in
    let d = refuse_ok (are_distinct b.0) BadList (Ok b.0) rows b.2 in
    let found = all_found (length table / 20) 0 table strings b.0 bytes (omega (arith, size)) b.1 in
    let start = start_at table strings 0 in
    let at : length (take start strings) ≡ start = omega (arith, found.within, length-take start strings) in
    let list : IsListOf table strings b.0 = record {
      before = take start strings;
      in_strings = sym (take-append-drop start strings) ∙ ap (λ (xs : List ℕ). take start strings ++ xs) found.in_strings;
      in_table = rw at found.in_table;
      placed = rw at found.placed;
      is_spelled = rw (found.are_rows, d.0) refl;
    } in
    subst (λ (rs : List ListRow). IsListOf table strings rs) (ok_same b.0 rows d.1) list

pub answer_found : (table strings : List ℕ) (answer : Result (List ListRow) ListFault) → IsBytes table → Answers is_memory answer (list_of table strings) → IfOk answer (IsListOf table strings)
answer_found table strings (Ok rows) bytes meant = is_found table strings rows bytes meant
answer_found table strings (Err fault) bytes meant = tt

-- ---- rows as they are spelled

flat_row : (start : ℕ) (row : ListRow) (rest : List ℕ)
    → row_bytes start row ++ rest ≡ bytes32 start ++ (bytes32 row.stamp ++ (bytes32 row.checksum ++ (bytes32 0 ++ (bytes32 0 ++ rest))))
unfolding row_bytes
flat_row start row rest = simp append_assoc

-- the words of a row, from an offset of a table on
record AreWords (table : List ℕ) (at start : ℕ) (row : ListRow) : Type 0 where
  start_there : word32 at table ≡ start
  stamp : word32 (at + 4) table ≡ row.stamp
  checksum : word32 (at + 8) table ≡ row.checksum
  zero_12 : word32 (at + 12) table ≡ 0
  zero_16 : word32 (at + 16) table ≡ 0

row_words : (table : List ℕ) (at start : ℕ) (row : ListRow) (rest : List ℕ) → drop at table ≡ row_bytes start row ++ rest → start < 2 ^ 32 → row.stamp < 2 ^ 32 → row.checksum < 2 ^ 32 → AreWords table at start row
row_words table at start row rest there small stamp checksum =
    let r16 = bytes32 0 ++ rest in
    let r12 = bytes32 0 ++ r16 in
    let r8 = bytes32 row.checksum ++ r12 in
    let r4 = bytes32 row.stamp ++ r8 in
    let word : (k : ℕ) → word32 (at + k) table ≡ word32 k (bytes32 start ++ r4) = λ k. word32_drop at k table ∙ ap (word32 k) (there ∙ flat_row start row rest) in
    record {
      start_there = ap (λ (n : ℕ). word32 n table) (sym (omega arith)) ∙ word 0 ∙ word32_back start r4 small;
      stamp = word 4 ∙ behind32 0 start r4 ∙ word32_back row.stamp r8 stamp;
      checksum = word 8 ∙ behind32 4 start r4 ∙ behind32 0 row.stamp r8 ∙ word32_back row.checksum r12 checksum;
      zero_12 = word 12 ∙ behind32 8 start r4 ∙ behind32 4 row.stamp r8 ∙ behind32 0 row.checksum r12 ∙ word32_back 0 r16 (omega arith);
      zero_16 = word 16 ∙ behind32 12 start r4 ∙ behind32 8 row.stamp r8 ∙ behind32 4 row.checksum r12 ∙ behind32 0 0 r16 ∙ word32_back 0 rest (omega arith);
    }

-- these rows are what is left of a table and of strings
record AreLeft (table strings : List ℕ) (index at : ℕ) (rows : List ListRow) : Type 0 where
  in_table : drop (20 * index) table ≡ list_bytes at rows
  in_strings : drop at strings ≡ list_strings rows
  within : at ≤ length strings
  placed : are_placed at rows ≡ true
  are_rows : list_all is_row rows ≡ true

row_parts : (row : ListRow) → is_row row ≡ true → (is_valid_name row.name ≡ true) × (row.stamp < 2 ^ 32) × (row.checksum < 2 ^ 32)
unfolding is_row
row_parts row e =
    let t = all_three (is_valid_name row.name) (nat_lt row.stamp (2 ^ 32)) (nat_lt row.checksum (2 ^ 32)) e in
    (t.0, ltb-true _ _ t.1, ltb-true _ _ t.2)

words_left : (table strings : List ℕ) (index at : ℕ) (row : ListRow) (rows : List ListRow) → AreLeft table strings index at (row ∷ rows) → AreWords table (20 * index) at row
unfolding are_placed list_bytes
words_left table strings index at row rows left =
    let small = and_parts (nat_lt at (2 ^ 32)) (are_placed (after at row) rows) left.placed in
    let parts = row_parts row (and_parts (is_row row) (list_all is_row rows) left.are_rows).0 in
    row_words table (20 * index) at row (list_bytes (after at row) rows) left.in_table (ltb-true _ _ small.0) parts.1 parts.2

begins : (table strings : List ℕ) (index at : ℕ) (rows : List ListRow) → AreLeft table strings index at rows → start_at table strings index ≡ at
unfolding list_bytes list_strings
begins table strings index at [] left =
    let table_ends : length table - 20 * index ≡ 0 = sym (length-drop (20 * index) table) ∙ ap length left.in_table in
    let strings_end : length strings - at ≡ 0 = sym (length-drop at strings) ∙ ap length left.in_strings in
    let le : length table ≤ 20 * index = omega (arith, table_ends) in
    start_past table strings index le ∙ omega (arith, strings_end, left.within)
begins table strings index at (row ∷ rows) left =
    let size : length table - 20 * index ≡ 20 + length (list_bytes (after at row) rows) =
    sym (length-drop (20 * index) table) ∙ ap length left.in_table ∙ length-append (row_bytes at row) (list_bytes (after at row) rows) ∙ rw (length_row_bytes at row) refl in
    let lt : 20 * index < length table = omega (arith, size) in
    start_here table strings index lt ∙ (words_left table strings index at row rows left).start_there

length_strings : (row : ListRow) (rows : List ListRow) → length (list_strings (row ∷ rows)) ≡ length row.name + 1 + length (list_strings rows)
length_strings row rows = ap length (strings_step row rows) ∙ length-append row.name (0 ∷ list_strings rows) ∙ omega arith

after_within : (table strings : List ℕ) (index at : ℕ) (row : ListRow) (rows : List ListRow) → AreLeft table strings index at (row ∷ rows) → after at row ≤ length strings
after_within table strings index at row rows left =
    let size : length strings - at ≡ length row.name + 1 + length (list_strings rows) = sym (length-drop at strings) ∙ ap length left.in_strings ∙ length_strings row rows in
    omega (arith, size, left.within)

next_left : (table strings : List ℕ) (index at : ℕ) (row : ListRow) (rows : List ListRow) → AreLeft table strings index at (row ∷ rows) → AreLeft table strings (index + 1) (after at row) rows
unfolding list_bytes are_placed
next_left table strings index at row rows left =
    let next : 20 * index + 20 ≡ 20 * (index + 1) = omega arith in
    record {
      in_table = ap (λ (n : ℕ). drop n table) (sym next) ∙ sym (drop-drop 20 (20 * index) table) ∙ ap (drop 20) left.in_table ∙ drop_at (row_bytes at row) (list_bytes (after at row) rows) 20 (length_row_bytes at row);
      in_strings = sym (drop-drop (length row.name + 1) at strings) ∙ ap (drop (length row.name + 1)) (left.in_strings ∙ strings_step row rows) ∙ drop-append-add row.name (0 ∷ list_strings rows) 1;
      within = after_within table strings index at row rows left;
      placed = (and_parts (nat_lt at (2 ^ 32)) (are_placed (after at row) rows) left.placed).1;
      are_rows = (and_parts (is_row row) (list_all is_row rows) left.are_rows).1;
    }

one_again : (table strings : List ℕ) (index at : ℕ) (row : ListRow) (rows : List ListRow) → AreLeft table strings index at (row ∷ rows) → row_at table strings index ≡ Ok row
unfolding row_at row_between is_ended has_zeros checked_name
one_again table strings index at row rows left =
    let words = words_left table strings index at row rows left in
    let within = after_within table strings index at row rows left in
    let parts = row_parts row (and_parts (is_row row) (list_all is_row rows) left.are_rows).0 in
    let some : at < after at row = omega arith in
    let last : after at row - 1 ≡ at + length row.name = omega arith in
    let size : after at row - 1 - at ≡ length row.name = omega arith in
    let text : drop at strings ≡ row.name ++ 0 ∷ list_strings rows = left.in_strings ∙ strings_step row rows in
    let zero_there : byte (after at row - 1) strings ≡ 0 =
    rw (last, ← get_or-drop at strings (length row.name) 0, text) (get_or-append_seam row.name 0 (list_strings rows) 0) in
    let name : part at (after at row - 1 - at) strings ≡ row.name =
    rw (size, text) (take_at row.name (0 ∷ list_strings rows) (length row.name) refl) in
    rw (
      begins table strings index at (row ∷ rows) left,
      begins table strings (index + 1) (after at row) rows (next_left table strings index at row rows left),
      lt-ltb _ _ some,
      le-leb _ _ within,
      zero_there,
      words.zero_12,
      words.zero_16,
      name,
      parts.0,
      words.stamp,
      words.checksum,
    ) refl

all_again : (rows : List ListRow) (index at : ℕ) (table strings : List ℕ) → AreLeft table strings index at rows → each (row_at table strings) (range_with_len index (length rows)) ≡ Ok rows
unfolding each
all_again [] index at table strings left = refl
all_again (row ∷ rows) index at table strings left =
    rw (one_again table strings index at row rows left, all_again rows (index + 1) (after at row) table strings (next_left table strings index at row rows left)) refl

length_list_bytes : (at : ℕ) (rows : List ListRow) → length (list_bytes at rows) ≡ 20 * length rows
unfolding list_bytes
length_list_bytes at [] = refl
length_list_bytes at (row ∷ rows) =
    length-append (row_bytes at row) (list_bytes (after at row) rows) ∙ rw (length_row_bytes at row, length_list_bytes (after at row) rows) (omega arith)

pub is_read : (table strings : List ℕ) (rows : List ListRow) → IsListOf table strings rows → list_of table strings ≡ Ok rows
unfolding list_of
is_read table strings rows list =
    let at = length list.before in
    let size : length table ≡ 20 * length rows = ap length list.in_table ∙ length_list_bytes at rows in
    let whole : length table % 20 ≡ 0 = omega (arith, size) in
    let count : length table / 20 ≡ length rows = omega (arith, size) in
    let spelled = and_parts (list_all is_row rows) (are_distinct rows) list.is_spelled in
    let left : AreLeft table strings 0 at rows = record {
      in_table = list.in_table;
      in_strings = ap (drop at) list.in_strings ∙ drop_at list.before (list_strings rows) at refl;
      within = omega (arith, ap length list.in_strings, length-append list.before (list_strings rows));
      placed = list.placed;
      are_rows = spelled.0;
    } in
    rw (whole, count, all_again rows 0 at table strings left, spelled.1) refl

pub is_one : (table strings : List ℕ) (rows others : List ListRow) → IsListOf table strings rows → IsListOf table strings others → rows ≡ others
is_one table strings rows others list other = ok_same rows others (sym (is_read table strings rows list) ∙ is_read table strings others other)
