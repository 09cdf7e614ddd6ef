-- The rows of a run, done one after the other in a folder of files.
use Rattle.std.proofs.Common.{◌≡◌, ◌∙◌, ◌+◌, ◌<◌, ◌≤◌, ℕ, zero, suc, Bool, true, false, cond, List, [], ◌∷◌, length, ltb, drop, get_or, Option, Some, None, refl, sym, ap, subst, inl, inr, arith}
use Rattle.std.specs.Prelude.{◌||◌, nat_lt}
use Rattle.std.specs.FinMap.{get, get-insert, get-remove}
use Rattle.std.specs.Cmp.Lexicographic.{nat_list_cmp_total}
use Rattle.std.specs.List.{list_any}
use Rattle.std.proofs.lemmas.Bool.{cases_Bool, ltb-false}
use Rattle.std.proofs.lemmas.List.{length-drop, length-map}
use Rattle.pl_base.specs.Files.{Files}
use Rattle.pl_base.specs.Names.{is_valid_name}
use Rattle.pl_base.proofs.FilesLaws.{equal_files}
use Rattle.pl_folder.specs.Disk.{Name, View, same}
use Rattle.pl_folder.specs.declared.TheConstants.{STORED}
use Rattle.pl_journal.specs.FileNames.{name_text}
use Rattle.pl_journal.specs.Leaves.{DoEdit, DoEdits}
use Rattle.pl_journal.specs.Meaning.{Agree, HasNoOwn, Same, row_of, rows_for}
use Rattle.pl_journal.specs.Names.{beside, is_journal_name, journal, journal_new}
use Rattle.pl_journal.specs.Parts.{IsReady, ReadsDone, committed, journal_of, stepped, without_journal}
use Rattle.pl_journal.specs.Phases.{all_staged, shifted}
use Rattle.pl_journal.specs.Spelling.{are_rows, name_of}
use Rattle.pl_journal.specs.declared.change.Change.{Change}
use Rattle.pl_journal.specs.declared.change.Change.TheVariants.{Put, Drop}
use Rattle.pl_journal.specs.declared.file_name.FileName.{FileName}
use Rattle.pl_journal.specs.declared.row.Row.{Row}
use Rattle.pl_journal.specs.declared.step.Step.{Step}
use Rattle.pl_journal.specs.declared.step.Step.TheVariants.{Put as PutStep, Drop as DropStep, Skip}
use Rattle.pl_journal.proofs.CommitLemmas.{next_done}
use Rattle.pl_journal.proofs.Done.{AreDistinct, distinct_test, not_beside, own_not, valid_not}
use Rattle.pl_journal.proofs.FileViews.{one_view}
use Rattle.pl_journal.proofs.GrammarLaws.{written_rows}
use Rattle.pl_journal.proofs.InPlace.{does_rows}
use Rattle.pl_journal.proofs.Meanings.{Holds, committed_holds}
use Rattle.pl_journal.proofs.Phases.{as_many, row_of_first_step}
use Rattle.pl_journal.proofs.StateLemmas.{none_yet}
use Rattle.pl_journal.proofs.Steps.{below, still_there}
use Rattle.pl_weave.specs.Running.{AreStored, IsUnderWay}
use Rattle.pl_weave.specs.Runs.{is_large, with_row}

-- ---- lists

any_default : {A : Type 0} (xs : List A) (k : ℕ) (d e : A) → k < length xs → get_or xs k d ≡ get_or xs k e
any_default [] k d e lt = absurd (omega (arith, lt))
any_default (x ∷ xs) zero d e lt = refl
any_default (x ∷ xs) (suc k) d e lt = any_default xs k d e (omega (arith, lt))

rest_of : {A : Type 0} (k : ℕ) (x : A) (rest xs : List A) → x ∷ rest ≡ drop k xs → rest ≡ drop (k + 1) xs
rest_of zero x rest [] is = let no : ⊥ = cc in absurd no
rest_of zero x rest (y ∷ ys) is = cc
rest_of (suc k) x rest [] is = let no : ⊥ = cc in absurd no
rest_of (suc k) x rest (y ∷ ys) is =
    let later : suc k + 1 ≡ suc (k + 1) = omega arith in
    rest_of k x rest ys is ∙ ap (λ (j : ℕ). drop j (y ∷ ys)) (sym later)

-- what does the row of a number
does_at : (i k : ℕ) (edits : List Change) (steps : List Step) (row : Change) (left : List Change) (d : Step) → DoEdits i edits steps → row ∷ left ≡ drop k edits → DoEdit (i + k) row (get_or steps k d)
does_at i zero [] steps row left d does is = let no : ⊥ = cc in absurd no
does_at i zero (edit ∷ edits) [] row left d does is = absurd does
does_at i zero (edit ∷ edits) (step ∷ steps) row left d does is =
    let same_row : edit ≡ row = cc in
    subst (λ (j : ℕ). DoEdit j row step) (omega arith) (subst (λ (e : Change). DoEdit i e step) same_row does.0)
does_at i (suc k) [] steps row left d does is = let no : ⊥ = cc in absurd no
does_at i (suc k) (edit ∷ edits) [] row left d does is = absurd does
does_at i (suc k) (edit ∷ edits) (step ∷ steps) row left d does is =
    subst (λ (j : ℕ). DoEdit j row (get_or steps k d)) (omega arith) (does_at (i + 1) k edits steps row left d does.1 is)

-- the file of a row that is left stands beside
beside_at : (i k : ℕ) (edits : List Change) (w : View) (name bytes : List ℕ) (left : List Change) → Holds i edits w → Put name bytes ∷ left ≡ drop k edits → w (beside (i + k)) ≡ Some bytes
beside_at i zero [] w name bytes left holds is = let no : ⊥ = cc in absurd no
beside_at i zero (Put m more ∷ edits) w name bytes left holds is =
    let same_bytes : more ≡ bytes = cc in
    subst (λ (j : ℕ). w (beside j) ≡ Some bytes) (omega arith) (holds.0 ∙ ap (λ (b : List ℕ). Some b) same_bytes)
beside_at i zero (Drop m ∷ edits) w name bytes left holds is = let no : ⊥ = cc in absurd no
beside_at i (suc k) [] w name bytes left holds is = let no : ⊥ = cc in absurd no
beside_at i (suc k) (Put m more ∷ edits) w name bytes left holds is = subst (λ (j : ℕ). w (beside j) ≡ Some bytes) (omega arith) (beside_at (i + 1) k edits w name bytes left holds.1 is)
beside_at i (suc k) (Drop m ∷ edits) w name bytes left holds is = subst (λ (j : ℕ). w (beside j) ≡ Some bytes) (omega arith) (beside_at (i + 1) k edits w name bytes left holds is)

-- its name is not one of the journal's own
name_at : (i k : ℕ) (edits : List Change) (row : Change) (left : List Change) → AreDistinct i (rows_for edits) → row ∷ left ≡ drop k edits → is_journal_name (name_of (row_of row)) ≡ false
name_at i zero [] row left distinct is = let no : ⊥ = cc in absurd no
name_at i zero (edit ∷ edits) row left distinct is =
    let same_row : edit ≡ row = cc in
    subst (λ (e : Change). is_journal_name (name_of (row_of e)) ≡ false) same_row distinct.0
name_at i (suc k) [] row left distinct is = let no : ⊥ = cc in absurd no
name_at i (suc k) (edit ∷ edits) row left distinct is = name_at (i + 1) k edits row left distinct.3 is

-- ---- the files with a row more

put_agree : (files held new : Files) (k : ℕ) (name bytes : List ℕ) (from to : FileName) → DoEdit k (Put name bytes) (PutStep from to) → get held (beside k) ≡ Some bytes → Same (get new) (stepped (PutStep from to) (get held)) → Agree (get held) (get files)
    → Agree (get new) (get (with_row files (Put name bytes)))
put_agree files held new k name bytes from to does there is agree n valid =
    is n
    ∙ (λ t. cond (same n (does.1 t)) (get held (does.0 t)) (cond (same n (does.0 t)) None (get held n)))
    ∙ (λ t. cond (same n name) (there t) (cond (not_beside n k valid t) None (agree n valid t)))
    ∙ sym (get-insert nat_list_cmp_total files name bytes n)

drop_agree : (files held new : Files) (k : ℕ) (name : List ℕ) (gone : FileName) → DoEdit k (Drop name) (DropStep gone) → Same (get new) (stepped (DropStep gone) (get held)) → Agree (get held) (get files) → Agree (get new) (get (with_row files (Drop name)))
drop_agree files held new k name gone does is agree n valid =
    is n ∙ (λ t. cond (same n (does t)) None (agree n valid t)) ∙ sym (get-remove nat_list_cmp_total files name n)

row_agree : (files held new : Files) (k : ℕ) (row : Change) (step : Step) → DoEdit k row step → ((name bytes : List ℕ) → row ≡ Put name bytes → get held (beside k) ≡ Some bytes) → Same (get new) (stepped step (get held)) → Agree (get held) (get files)
    → Agree (get new) (get (with_row files row))
row_agree files held new k (Put name bytes) (PutStep from to) does there is agree = put_agree files held new k name bytes from to does (there name bytes refl) is agree
row_agree files held new k (Put name bytes) (DropStep gone) does there is agree = absurd does
row_agree files held new k (Put name bytes) Skip does there is agree = absurd does
row_agree files held new k (Drop name) (PutStep from to) does there is agree = absurd does
row_agree files held new k (Drop name) (DropStep gone) does there is agree = drop_agree files held new k name gone does is agree
row_agree files held new k (Drop name) Skip does there is agree = absurd does

row_no_own : (files : Files) (row : Change) → is_journal_name (name_of (row_of row)) ≡ false → HasNoOwn (get files) → HasNoOwn (get (with_row files row))
row_no_own files (Put name bytes) valid none n own = get-insert nat_list_cmp_total files name bytes n ∙ (λ t. cond (own_not n name own valid t) (Some bytes) (get files n)) ∙ none n own
row_no_own files (Drop name) valid none n own = get-remove nat_list_cmp_total files name n ∙ (λ t. cond (own_not n name own valid t) None (get files n)) ∙ none n own

put_stored : (files : Files) (name bytes : List ℕ) → nat_lt STORED (length bytes) ≡ false → AreStored files → AreStored (with_row files (Put name bytes))
put_stored files name bytes small stored n found valid is =
    let put : cond (same n name) (Some bytes) (get files n) ≡ Some found = sym (get-insert nat_list_cmp_total files name bytes n) ∙ is in
    elim (cases_Bool (same n name)) [
      | inl hit ↦
          let same_bytes : Some bytes ≡ Some found = sym (ap (λ (b : Bool). cond b (Some bytes) (get files n)) hit) ∙ put in
          let one : bytes ≡ found = cc in
          subst (λ (b : List ℕ). length b ≤ STORED) one (ltb-false STORED (length bytes) small)
      | inr miss ↦ stored n found valid (sym (ap (λ (b : Bool). cond b (Some bytes) (get files n)) miss) ∙ put)
    ]

drop_stored : (files : Files) (name : List ℕ) → AreStored files → AreStored (with_row files (Drop name))
drop_stored files name stored n found valid is =
    let gone : cond (same n name) None (get files n) ≡ Some found = sym (get-remove nat_list_cmp_total files name n) ∙ is in
    elim (cases_Bool (same n name)) [
      | inl hit ↦
          let none : ◌≡◌ {A = Option (List ℕ)} None (Some found) = sym (ap (λ (b : Bool). cond b None (get files n)) hit) ∙ gone in
          let no : ⊥ = cc in
          absurd no
      | inr miss ↦ stored n found valid (sym (ap (λ (b : Bool). cond b None (get files n)) miss) ∙ gone)
    ]

row_stored : (files : Files) (row : Change) → is_large row ≡ false → AreStored files → AreStored (with_row files row)
row_stored files (Put name bytes) small stored = put_stored files name bytes small stored
row_stored files (Drop name) small stored = drop_stored files name stored

neither : (a b : Bool) → (a || b) ≡ false → (a ≡ false) × (b ≡ false)
neither true b is = let no : ⊥ = cc in absurd no
neither false b is = (refl, is)

-- ---- a run begins, does a row, and ends

pub begins_rows : (rows : List Change) (steps : List Step) (files mid new : Files) → are_rows (rows_for rows) ≡ true → HasNoOwn (get files) → DoEdits 0 rows steps → Same (get mid) (all_staged rows (journal_of rows) (get files)) → Agree (get mid) (get files)
    → Same (get new) (shifted journal_new journal (get mid)) → list_any is_large rows ≡ false → AreStored files → IsUnderWay steps 0 rows files new
begins_rows rows steps files mid new fine none does staged agree is small stored = record {
  before = files;
  edits = rows;
  ready = record { no_own = none; fine = fine; does = does };
  most = omega arith;
  left_is = refl;
  reads = λ n. is n ∙ ap (λ (v : View). shifted journal_new journal v n) (one_view (get mid) (all_staged rows (journal_of rows) (get files)) staged) ∙ none_yet (rows_for rows) (committed rows (get files)) n;
  agree = λ n valid. is n ∙ (λ t. cond (valid_not n journal valid refl t) (get mid journal_new) (cond (valid_not n journal_new valid refl t) None (get mid n))) ∙ agree n valid;
  no_own = none;
  stored = stored;
  small = small;
}

-- what do_next asks for
pub reads_done : {steps : List Step} {k : ℕ} {left : List Change} {files held : Files} → IsUnderWay steps k left files held → ReadsDone steps k (get held)
reads_done u = record { before = get u.before; edits = u.edits; ready = u.ready; most = u.most; reads = u.reads }

-- as many rows are left as steps
pub left_count : {steps : List Step} {k : ℕ} {left : List Change} {files held : Files} → IsUnderWay steps k left files held → length steps ≡ k + length left
left_count {steps = steps} {k = k} u =
    let v = committed u.edits (get u.before) in
    let many : length steps ≡ length (rows_for u.edits) = as_many v 0 (rows_for u.edits) steps (does_rows (get u.before) u.edits steps u.ready) in
    let edits : length (rows_for u.edits) ≡ length u.edits = length-map u.edits row_of in
    let left = ap (λ (xs : List Change). length xs) u.left_is ∙ length-drop k u.edits in
    omega (arith, many, edits, left, u.most)

pub row_done : {steps : List Step} {k : ℕ} {files held new : Files} (row : Change) (left : List Change) → IsUnderWay steps k (row ∷ left) files held → k < length steps → Same (get new) (stepped (get_or steps k Skip) (get held)) → IsUnderWay steps (k + 1) left (with_row files row) new
row_done {steps = steps} {k = k} {files = files} {held = held} {new = new} row left u lt is =
    let v = committed u.edits (get u.before) in
    let rows = rows_for u.edits in
    let step = get_or steps k Skip in
    let none_before : 0 + k ≡ k = omega arith in
    let distinct = distinct_test rows u.ready.fine in
    let at = row_of_first_step v rows steps k step (does_rows (get u.before) u.edits steps u.ready) lt (any_default steps k Skip step lt) in
    let holds : Holds 0 u.edits v = committed_holds (get u.before) u.ready.no_own u.edits (journal_of u.edits) (written_rows (journal_of u.edits) rows u.ready.fine refl) distinct in
    let there : (name bytes : List ℕ) → row ≡ Put name bytes → get held (beside k) ≡ Some bytes =
    λ name bytes put.
    u.reads (beside k)
    ∙ still_there 0 rows (λ j. ltb j k) v k at.0 at.1 distinct (below k)
    ∙ subst (λ (j : ℕ). v (beside j) ≡ Some bytes) none_before (beside_at 0 k u.edits v name bytes left holds (ap (λ (r : Change). r ∷ left) (sym put) ∙ u.left_is)) in
    let does : DoEdit k row step = subst (λ (j : ℕ). DoEdit j row step) none_before (does_at 0 k u.edits steps row left Skip u.ready.does u.left_is) in
    let smalls = neither (is_large row) (list_any is_large left) u.small in
    record {
      before = u.before;
      edits = u.edits;
      ready = u.ready;
      most = omega (arith, lt);
      left_is = rest_of k row left u.edits u.left_is;
      reads = next_done v rows u.ready.fine k at.0 step at.1 at.2 (get held) (get new) u.reads is;
      agree = row_agree files held new k row step does there is u.agree;
      no_own = row_no_own files row (name_at 0 k u.edits row left distinct u.left_is) u.no_own;
      stored = row_stored files row smalls.0 u.stored;
      small = smalls.1;
    }

pub rows_end : {steps : List Step} {k : ℕ} {files held : Files} (new : Files) → IsUnderWay steps k [] files held → Same (get new) (without_journal (get held)) → HasNoOwn (get new) → new ≡ files
rows_end {files = files} {held = held} new u is none = equal_files new files (λ n. elim (cases_Bool (is_journal_name n)) [
  | inl own ↦ none n own ∙ sym (u.no_own n own)
  | inr valid ↦ is n ∙ (λ t. cond (valid_not n journal valid refl t) None (get held n)) ∙ u.agree n valid
])
