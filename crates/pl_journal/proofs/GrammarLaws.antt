-- The two laws of a journal's bytes: what is read is spelled so, and what is spelled so is read.
use Rattle.std.proofs.Common.{◌≡◌, ◌≢◌, ⊎_elim, ℕ, zero, suc, Bool, ◌*◌, ◌^◌, ◌<◌, ◌≤◌, true, false, cond, ltb, eqb, List, [], ◌∷◌, ◌++◌, length, take, drop, Some, None, Result, Ok, Err, refl, sym, ap, subst, ◌∙◌, append_assoc, arith}
use Rattle.std.specs.Prelude.{◌&&◌, ◌||◌, not, nat_le, IfOk, IfErr, All, MatchBool, ⊤, IsErrAnd}
use Rattle.std.specs.Str.{bytes_eq}
use Rattle.std.specs.List.{flat_map, list_all, AllByRecursion}
use Rattle.std.specs.Cmp.Lexicographic.{bytes_decides}
use Rattle.std.proofs.lemmas.Bool.{cases_Bool, le-ltb, leb-true, eqb-true, and_parts, cond-false}
use Rattle.std.proofs.lemmas.List.{take-append-drop, append-nil, nil_from_length, length-append, length-map}
use Rattle.std.proofs.lemmas.List.Concat.{flat_map-cons}
use Rattle.std.proofs.lemmas.List.Elements.{All-from_recursion}
use Rattle.pl_base.specs.Answers.{◌>>=◌, Answers, AnswersAs}
use Rattle.pl_base.specs.Bytes.{IsBytes, bytes32}
use Rattle.pl_base.specs.Names.{IsNameLength, is_valid_name}
use Rattle.pl_base.proofs.NameLaws.{valid_length}
use Rattle.pl_base.proofs.WordLaws.{is_bytes_drop, length_bytes32}
use Rattle.pl_base.proofs.AnswerLaws.{bind_ok, ok_same}
use Rattle.pl_folder.specs.Disk.{same}
use Rattle.pl_folder.specs.declared.TheConstants.{STORED}
use Rattle.pl_journal.specs.declared.constants.TheConstants.{DROP, MAGIC, MAX_ROWS, PUT}
use Rattle.pl_journal.specs.declared.row.Row.{Row}
use Rattle.pl_journal.specs.declared.fault.JournalFault.{JournalFault}
use Rattle.pl_journal.specs.declared.fault.JournalFault.TheVariants.{Failed, BadJournal, NoMemory}
use Rattle.pl_journal.specs.Names.{is_row_name, cache}
use Rattle.pl_journal.specs.Spelling.{are_named, are_rows, differ, journal_bytes, misses, name_of, row_bytes, IsJournalOf}
use Rattle.pl_journal.specs.Reading.{all_rows, behind_magic, checked, fields, is_memory, name_at, name_of_size, number32_at, ok_of, read, row_at, row_of_kind, rows_at, rows_spelled}
use Rattle.pl_journal.specs.Rows.{rows_of}
use Rattle.pl_journal.specs.Meaning.{Edit, row_of, rows_for}
use Rattle.pl_journal.proofs.NameLemmas.{equal}
use Rattle.pl_journal.proofs.Fields.{passed, guard_then, Takes, Takes-then, number32_takes, number32_again, rows_take, rows_again, AllNamed}

-- ---- what is read

magic_takes : (bytes rest : List ℕ) → IsBytes bytes → behind_magic bytes ≡ Ok rest → Takes bytes MAGIC rest
unfolding behind_magic
magic_takes bytes rest fits e =
    let p = passed (bytes_eq (take 8 bytes) MAGIC) BadJournal (drop 8 bytes) rest e in
    let front : take 8 bytes ≡ MAGIC = (bytes_decides (take 8 bytes) MAGIC).0 p.0 in
    subst (Takes bytes MAGIC) p.1 (record { parts = sym (take-append-drop 8 bytes) ∙ ap (λ (xs : List ℕ). xs ++ drop 8 bytes) front; rest_fits = is_bytes_drop 8 bytes fits })

all_rows_take : (count : ℕ) (bytes : List ℕ) (rows : List Row) → IsBytes bytes → all_rows count bytes ≡ Ok rows → (bytes ≡ flat_map row_bytes rows) × (length rows ≡ count)
unfolding all_rows
all_rows_take count bytes rows fits e =
    let g = guard_then (ltb MAX_ROWS count) BadJournal _ rows e in
    let b = bind_ok (rows_at count bytes) (λ x. cond (eqb (length x.1) 0) (Ok x.0) (Err BadJournal)) rows g.1 in
    let p = passed (eqb (length b.0.1) 0) BadJournal b.0.0 rows b.2 in
    let t = rows_take count bytes b.0 fits b.1 in
    let nothing : b.0.1 ≡ [] = nil_from_length b.0.1 (eqb-true _ _ p.0) in
    subst (λ (xs : List Row). (bytes ≡ flat_map row_bytes xs) × (length xs ≡ count)) p.1 (t.0.parts ∙ ap (λ (r : List ℕ). flat_map row_bytes b.0.0 ++ r) nothing ∙ append-nil (flat_map row_bytes b.0.0), t.1)

fields_take : (bytes : List ℕ) (rows : List Row) → IsBytes bytes → fields bytes ≡ Ok rows → bytes ≡ journal_bytes rows
unfolding fields journal_bytes
fields_take bytes rows fits e =
    let a = bind_ok (behind_magic bytes) (λ counted. number32_at counted >>= λ count. all_rows count.0 count.1) rows e in
    let b = bind_ok (number32_at a.0) (λ count. all_rows count.0 count.1) rows a.2 in
    let t0 = magic_takes bytes a.0 fits a.1 in
    let t1 = number32_takes a.0 b.0 t0.rest_fits b.1 in
    let all = all_rows_take b.0.0 b.0.1 rows t1.rest_fits b.2 in
    let t01 = Takes-then bytes MAGIC a.0 (bytes32 b.0.0) b.0.1 t0 t1 in
    t01.parts ∙ ap (λ (r : List ℕ). (MAGIC ++ bytes32 b.0.0) ++ r) all.0 ∙ ap (λ (k : ℕ). (MAGIC ++ bytes32 k) ++ flat_map row_bytes rows) (sym all.1)

pub read_takes : (bytes : List ℕ) (rows : List Row) → IsBytes bytes → read bytes ≡ Ok rows → (are_rows rows ≡ true) × (bytes ≡ journal_bytes rows)
unfolding read
read_takes bytes rows fits e =
    let a = bind_ok (fields bytes) checked rows e in
    let p = passed (are_rows a.0) BadJournal a.0 rows a.2 in
    subst (λ (y : List Row). (are_rows y ≡ true) × (bytes ≡ journal_bytes y)) p.1 (p.0, fields_take bytes a.0 fits a.1)

pub is_found : (bytes : List ℕ) (r : Result (List Row) JournalFault) → IsBytes bytes → Answers is_memory r (read bytes) → IfOk r (IsJournalOf bytes)
is_found bytes (Ok rows) fits given =
    let taken = read_takes bytes rows fits given in
    record { in_bytes = taken.1; is_spelled = taken.0 }
is_found bytes (Err e) fits given = tt

-- ---- it says of bytes that they are a journal, or that they are a bad one

abbrev IsBad : {X : Type 0} → Result X JournalFault → Type 0
IsBad (Ok x) = Unit {0}
IsBad (Err fault) = fault ≡ BadJournal

bad_then : {X Y : Type 0} (r : Result X JournalFault) (f : X → Result Y JournalFault) → IsBad r → ((x : X) → IsBad (f x)) → IsBad (r >>= f)
bad_then (Ok x) f bad next = next x
bad_then (Err e) f bad next = bad

bad_test : {X : Type 0} (b : Bool) (r q : Result X JournalFault) → IsBad r → IsBad q → IsBad (cond b r q)
bad_test true r q one two = one
bad_test false r q one two = two

bad_number : (bytes : List ℕ) → IsBad (number32_at bytes)
unfolding number32_at
bad_number bytes = bad_test (ltb (length bytes) 4) _ _ refl tt

bad_name : (bytes : List ℕ) → IsBad (name_at bytes)
unfolding name_at name_of_size
bad_name [] = refl
bad_name (size ∷ rest) = bad_test (ltb (length rest) size) _ _ refl (bad_test (is_row_name (take size rest)) _ _ tt refl)

bad_kind : (kind : ℕ) (name : List ℕ) → IsBad (row_of_kind kind name)
unfolding row_of_kind
bad_kind kind name = bad_test (eqb kind PUT) _ _ tt (bad_test (eqb kind DROP) _ _ tt refl)

bad_row : (bytes : List ℕ) → IsBad (row_at bytes)
unfolding row_at
bad_row [] = refl
bad_row (kind ∷ bytes) = bad_then (name_at bytes) _ (bad_name bytes) (λ name. bad_then (row_of_kind kind name.0) _ (bad_kind kind name.0) (λ row. tt))

bad_rows : (n : ℕ) (bytes : List ℕ) → IsBad (rows_at n bytes)
unfolding rows_at
bad_rows zero bytes = tt
bad_rows (suc n) bytes = bad_then (row_at bytes) _ (bad_row bytes) (λ first. bad_then (rows_at n first.1) _ (bad_rows n first.1) (λ others. tt))

bad_magic : (bytes : List ℕ) → IsBad (behind_magic bytes)
unfolding behind_magic
bad_magic bytes = bad_test (bytes_eq (take 8 bytes) MAGIC) _ _ tt refl

bad_all : (count : ℕ) (bytes : List ℕ) → IsBad (all_rows count bytes)
unfolding all_rows
bad_all count bytes = bad_test (ltb MAX_ROWS count) _ _ refl (bad_then (rows_at count bytes) _ (bad_rows count bytes) (λ rows. bad_test (eqb (length rows.1) 0) _ _ tt refl))

bad_fields : (bytes : List ℕ) → IsBad (fields bytes)
unfolding fields
bad_fields bytes = bad_then (behind_magic bytes) _ (bad_magic bytes) (λ counted. bad_then (number32_at counted) _ (bad_number counted) (λ count. bad_all count.0 count.1))

bad_read : (bytes : List ℕ) → IsBad (read bytes)
unfolding read
bad_read bytes = bad_then (fields bytes) checked (bad_fields bytes) (λ rows. bad_test (are_rows rows) _ _ tt refl)

pub not_failed : {X : Type 0} (r : Result X JournalFault) (view : X → List Row) (bytes : List ℕ) → AnswersAs view is_memory r (read bytes) → IfErr r (λ fault. fault ≢ Failed)
not_failed (Ok x) view bytes given = tt
not_failed (Err Failed) view bytes given = λ is. let no : Failed ≡ BadJournal = subst IsBad given (bad_read bytes) in absurd cc
not_failed (Err BadJournal) view bytes given = λ is. absurd cc
not_failed (Err NoMemory) view bytes given = λ is. absurd cc

-- ---- what is spelled

all_named : (rows : List Row) → list_all (λ row. is_row_name (name_of row)) rows ≡ true → AllNamed rows
all_named [] all = tt
all_named (row ∷ rows) all =
    let parts = and_parts (is_row_name (name_of row)) (list_all (λ row. is_row_name (name_of row)) rows) all in
    (parts.0, all_named rows parts.1)

pub record RowsFit (rows : List Row) : Type 0 where
  pub few : length rows ≤ MAX_ROWS
  pub named : AllNamed rows

pub rows_fit : (rows : List Row) → are_rows rows ≡ true → RowsFit rows
unfolding are_named
rows_fit rows good =
    let p1 = and_parts (nat_le (length rows) MAX_ROWS && list_all (λ row. is_row_name (name_of row)) rows) (differ name_of rows) good in
    let p0 = and_parts (nat_le (length rows) MAX_ROWS) (list_all (λ row. is_row_name (name_of row)) rows) p1.0 in
    record { few = leb-true (length rows) MAX_ROWS p0.0; named = all_named rows p0.1 }

magic_again : (rest : List ℕ) → behind_magic (MAGIC ++ rest) ≡ Ok rest
unfolding behind_magic
magic_again rest = refl

all_rows_again : (rows : List Row) → RowsFit rows → all_rows (length rows) (flat_map row_bytes rows) ≡ Ok rows
unfolding all_rows
all_rows_again rows fits =
    let long : ltb MAX_ROWS (length rows) ≡ false = le-ltb _ _ fits.few in
    let read_again : rows_at (length rows) (flat_map row_bytes rows) ≡ Ok (rows, []) = ap (rows_at (length rows)) (sym (append-nil (flat_map row_bytes rows))) ∙ rows_again rows [] fits.named in
    rw (long, read_again) refl

fields_again : (rows : List Row) → RowsFit rows → fields (journal_bytes rows) ≡ Ok rows
unfolding fields journal_bytes
fields_again rows fits =
    let all = flat_map row_bytes rows in
    let count = bytes32 (length rows) in
    ap fields (append_assoc MAGIC count all) ∙ rw (magic_again (count ++ all), number32_again (length rows) all (omega (arith, fits.few)), all_rows_again rows fits) refl

pub read_again : (rows : List Row) → are_rows rows ≡ true → read (journal_bytes rows) ≡ Ok rows
unfolding read
read_again rows good = rw (fields_again rows (rows_fit rows good), good) refl

pub is_read : (bytes : List ℕ) (rows : List Row) → IsJournalOf bytes rows → read bytes ≡ Ok rows
is_read bytes rows of = ap read of.in_bytes ∙ read_again rows of.is_spelled

pub is_one : (bytes : List ℕ) (rows other : List Row) → IsJournalOf bytes rows → IsJournalOf bytes other → rows ≡ other
is_one bytes rows other one two = ok_same rows other (sym (is_read bytes rows one) ∙ is_read bytes other two)

-- ---- the rows that bytes spell

pub no_rows : are_rows [] ≡ true
unfolding are_named
no_rows = refl

checked_rows : (found rows : List Row) → ok_of (checked found) ≡ Some rows → are_rows rows ≡ true
checked_rows found rows is = ⊎_elim
    (λ good. let same_rows : found ≡ rows = (let e : ok_of {X = List Row} (Ok found) ≡ Some rows = sym (ap (λ b. ok_of (cond b (Ok found) (Err BadJournal))) good) ∙ is in cc) in ap are_rows (sym same_rows) ∙ good)
    (λ bad. let e : ok_of {X = List Row} (Err BadJournal) ≡ Some rows = sym (ap (λ b. ok_of (cond b (Ok found) (Err BadJournal))) bad) ∙ is in absurd cc)
    (cases_Bool (are_rows found))

pub spelled_rows : (bytes : List ℕ) (rows : List Row) → rows_spelled bytes ≡ Some rows → are_rows rows ≡ true
unfolding rows_spelled read
spelled_rows bytes rows is = by_fields (fields bytes) is
  where
    by_fields : (r : Result (List Row) JournalFault) → ok_of (r >>= checked) ≡ Some rows → are_rows rows ≡ true
    by_fields (Ok found) is = checked_rows found rows is
    by_fields (Err fault) is = absurd cc

pub spelled_ok : (bytes : List ℕ) (rows : List Row) → read bytes ≡ Ok rows → rows_spelled bytes ≡ Some rows
unfolding rows_spelled
spelled_ok bytes rows is = ap ok_of is

spelled_bad : (bytes : List ℕ) (fault : JournalFault) → MatchBool (is_memory fault) ⊤ (read bytes ≡ Err fault) → fault ≡ BadJournal → rows_spelled bytes ≡ None
unfolding rows_spelled
spelled_bad bytes fault answers is = ap ok_of (subst (λ f. MatchBool (is_memory f) ⊤ (read bytes ≡ Err f)) is answers)

pub bad_passed : {X : Type 0} (bytes : List ℕ) (r : Result X JournalFault) (fault : JournalFault) → IsErrAnd r (λ f. f ≡ fault) → MatchBool (is_memory fault) ⊤ (read bytes ≡ Err fault) → IfErr r (λ f. f ≡ BadJournal → rows_spelled bytes ≡ None)
bad_passed bytes (Ok x) fault is answers = absurd is
bad_passed bytes (Err f) fault is answers = λ bad. spelled_bad bytes fault answers (sym is ∙ bad)

-- ---- changes as rows

named_all : (changes : List Edit) → list_all (λ row. is_row_name (name_of row)) (rows_for changes) ≡ list_all (λ change. is_row_name (name_of (row_of change))) changes
named_all [] = refl
named_all (change ∷ changes) = ap (λ b. is_row_name (name_of (row_of change)) && b) (named_all changes)

changes_miss : (n : List ℕ) (changes : List Edit) → misses name_of n (rows_for changes) ≡ misses (λ change. name_of (row_of change)) n changes
changes_miss n [] = refl
changes_miss n (change ∷ changes) = ap (λ b. not (same n (name_of (row_of change))) && b) (changes_miss n changes)

changes_differ : (changes : List Edit) → differ name_of (rows_for changes) ≡ differ (λ change. name_of (row_of change)) changes
changes_differ [] = refl
changes_differ (change ∷ changes) = λ i. changes_miss (name_of (row_of change)) changes i && changes_differ changes i

pub named_changes : (changes : List Edit) → are_rows (rows_for changes) ≡ are_named (λ change. name_of (row_of change)) changes
unfolding are_named
named_changes changes = λ i. nat_le (length-map changes row_of i) MAX_ROWS && named_all changes i && changes_differ changes i

-- ---- what a writer needs

pub row_name_length : (name : List ℕ) → is_row_name name ≡ true → IsNameLength name
row_name_length name fine = ⊎_elim
    (λ valid. valid_length name valid)
    (λ missed. subst IsNameLength (sym (equal name cache (sym (ap (λ b. b || same name cache) missed) ∙ fine))) (omega arith, omega arith))
    (cases_Bool (is_valid_name name))

short : (changes : List Edit) → AllNamed (rows_for changes) → AllByRecursion (λ change. length (name_of (row_of change)) < 2 ^ 8) changes
short [] named = tt
short (change ∷ changes) named = (omega (arith, (row_name_length (name_of (row_of change)) named.0).1), short changes named.1)

pub names_short : (changes : List Edit) → are_rows (rows_for changes) ≡ true → All (λ change. length (name_of (row_of change)) < 2 ^ 8) changes
names_short changes good = All-from_recursion (λ change. length (name_of (row_of change)) < 2 ^ 8) changes (short changes (rows_fit (rows_for changes) good).named)

pub change_count : (changes : List Edit) → length (rows_for changes) ≡ length changes
change_count changes = length-map changes row_of

pub few_changes : (changes : List Edit) → are_rows (rows_for changes) ≡ true → length changes ≤ MAX_ROWS
few_changes changes good = omega (arith, length-map changes row_of, (rows_fit (rows_for changes) good).few)

-- the rows of changes, as bytes
pub change_bytes : (changes : List Edit) → flat_map (λ change. row_bytes (row_of change)) changes ≡ flat_map row_bytes (rows_for changes)
change_bytes [] = refl
change_bytes (change ∷ changes) =
    flat_map-cons (λ c. row_bytes (row_of c)) change changes
    ∙ ap (λ (bytes : List ℕ). row_bytes (row_of change) ++ bytes) (change_bytes changes)
    ∙ sym (flat_map-cons row_bytes (row_of change) (rows_for changes))

rows_short : (rows : List Row) → AllNamed rows → length (flat_map row_bytes rows) ≤ 257 * length rows
rows_short [] named = omega arith
rows_short (row ∷ rows) named =
    omega (arith, ap (λ (xs : List ℕ). length xs) (flat_map-cons row_bytes row rows), length-append (row_bytes row) (flat_map row_bytes rows), row_name_length (name_of row) named.0, rows_short rows named.1)

-- a journal that is written is not too large to be taken
stored : (rows : List Row) → are_rows rows ≡ true → length (journal_bytes rows) ≤ STORED
unfolding journal_bytes
stored rows good =
    let fits = rows_fit rows good in
    omega (arith, length-append (MAGIC ++ bytes32 (length rows)) (flat_map row_bytes rows), length-append MAGIC (bytes32 (length rows)), length_bytes32 (length rows), rows_short rows fits.named, fits.few)

pub written_rows : (bytes : List ℕ) (rows : List Row) → are_rows rows ≡ true → bytes ≡ journal_bytes rows → rows_of bytes ≡ Some rows
unfolding rows_of rows_spelled
written_rows bytes rows good is =
    ap rows_of is ∙ cond-false (ltb STORED (length (journal_bytes rows))) _ _ (le-ltb _ _ (stored rows good)) ∙ ap ok_of (read_again rows good)
