-- A folder in memory never fails.
use Rattle.std.proofs.Common.{◌≡◌, ◌<◌, ◌∙◌, ℕ, List, [], ◌∷◌, length, Option, None, Result, Ok, Err, Bool, true, false, refl, sym, ap, subst, arith, ⊎_elim}
use Rattle.std.specs.Prelude.{IfOk, not, is_some}
use Rattle.std.specs.FinMap.{get}
use Rattle.std.specs.List.{list_any}
use Rattle.pl_base.proofs.AnswerLaws.{bind_ok, ok_same, unless_ok}
use Rattle.pl_base.specs.Answers.{◌>>=◌, unless}
use Rattle.pl_base.specs.Counts.{Counted}
use Rattle.pl_base.specs.Files.{Files}
use Rattle.pl_base.specs.Names.{is_valid_name}
use Rattle.pl_change.specs.Answers.{Finds, BatchMeans, ending}
use Rattle.pl_batch.specs.Changes.{changes_of, run_meant}
use Rattle.pl_change.specs.Commands.{ready, ready_for}
use Rattle.pl_change.specs.Store.{installed}
use Rattle.pl_change.specs.declared.cause.Cause.{Cause}
use Rattle.pl_change.specs.declared.cause.Cause.TheVariants.{BadJournal, BadName, FolderTooLarge}
use Rattle.pl_change.specs.declared.fault.BatchFault.{BatchFault}
use Rattle.pl_change.specs.declared.fault.BatchFault.TheVariants.{DiskFailed}
use Rattle.pl_change.specs.declared.fault.BatchFault.TheVariants as faults
use Rattle.pl_batch.specs.declared.run.Run.{Run}
use Rattle.pl_batch.specs.declared.run.Run.TheVariants.{All, UndoAll, Undo, Install}
use Rattle.pl_folder.specs.Calls.{Calls}
use Rattle.pl_folder.specs.Effects.{Effect}
use Rattle.pl_folder.specs.InMemory.{quiet_seen}
use Rattle.pl_folder.specs.Seen.{Broken}
use Rattle.pl_folder.specs.declared.quiet_folder.QuietFolder.{QuietFolder}
use Rattle.pl_journal.specs.Meaning.{HasNoOwn, rows_for}
use Rattle.pl_journal.specs.Names.{journal}
use Rattle.pl_journal.specs.Parts.{Looking, NextOn}
use Rattle.pl_journal.specs.Rows.{rows_in}
use Rattle.pl_journal.specs.Spelling.{are_rows}
use Rattle.pl_journal.specs.declared.change.Change.{Change}
use Rattle.pl_journal.specs.declared.step.Step.{Step}
use Rattle.pl_weave.specs.Runs.{is_large, run_rows, storable}

never_rose : Counted true 0 0 → ⊥
never_rose counted = ⊎_elim (λ lt. omega (arith, lt)) (λ le. omega (arith, le)) (counted.rose refl)

pub never_broken : {P : Effect} (a b : QuietFolder) → Calls Broken P (quiet_seen a) (quiet_seen b) → ⊥
never_broken a b call = never_rose call.count

pub never_next : {steps : List Step} {done : ℕ} (a b : QuietFolder) → done < length steps → NextOn Broken steps done (quiet_seen a) (quiet_seen b) → ⊥
never_next a b lt on = never_broken a b (on.next lt)

-- ---- what is found in a folder in memory

module _ {meant : Result (List Change) Cause} (a b : QuietFolder) (r : Result (List Change) BatchFault) (found : Finds meant (λ rows. rows) r (quiet_seen a) (quiet_seen b)) where
  pub rows_found : (rows : List Change) → r ≡ Ok rows → meant ≡ Ok rows
  rows_found rows is = subst (λ (q : Result (List Change) BatchFault). BatchMeans ((quiet_seen a).tells ≡ true) meant (λ xs. xs) q) is found.means refl

  pub cause_found : (cause : Cause) → r ≡ Err (faults.Cause cause) → meant ≡ Err cause
  cause_found cause is = subst (λ (q : Result (List Change) BatchFault). BatchMeans ((quiet_seen a).tells ≡ true) meant (λ xs. xs) q) is found.means refl

  pub never_found : r ≡ Err DiskFailed → ⊥
  never_found is = never_broken a b (subst (λ (q : Result (List Change) BatchFault). Calls (ending q) Looking (quiet_seen a) (quiet_seen b)) is found.calls)

-- ---- what a run means of files without a journal

no_journal : (files : Files) → get files journal ≡ None → ready files ≡ Ok []
unfolding ready
no_journal files none = ap (λ (o : Option (List ℕ)). unless (not (is_some (rows_in o))) BadJournal (Ok [])) none

then_changes : (run : Run) (files : Files) (start : Result (List Change) Cause) → start ≡ Ok [] → (start >>= λ x. changes_of files run) ≡ changes_of files run
then_changes run files start is = ap (λ (r : Result (List Change) Cause). r >>= λ x. changes_of files run) is

install_meant : (name bytes : List ℕ) (files : Files) → get files journal ≡ None → (valid : Bool) → is_valid_name name ≡ valid → run_meant (Install name bytes) files ≡ changes_of files (Install name bytes)
unfolding ready_for changes_of installed
install_meant name bytes files none true is =
    let start : ready_for name files ≡ Ok [] = ap (λ (b : Bool). unless (not b) BadName (ready files)) is ∙ no_journal files none in
    then_changes (Install name bytes) files (ready_for name files) start
install_meant name bytes files none false is = rw is refl

pub meant_is : (run : Run) (files : Files) → HasNoOwn (get files) → run_meant run files ≡ changes_of files run
meant_is (All asked) files none = then_changes (All asked) files (ready files) (no_journal files (none journal refl))
meant_is UndoAll files none = then_changes UndoAll files (ready files) (no_journal files (none journal refl))
meant_is (Undo names) files none = then_changes (Undo names) files (ready files) (no_journal files (none journal refl))
meant_is (Install name bytes) files none = install_meant name bytes files (none journal refl) (is_valid_name name) refl

pub rows_are : (run : Run) (files : Files) (meant : Result (List Change) Cause) → HasNoOwn (get files) → changes_of files run ≡ meant → (meant >>= storable) ≡ run_rows run files
rows_are run files meant none is = ap (λ (r : Result (List Change) Cause). r >>= storable) (sym is ∙ sym (meant_is run files none))

-- rows that a folder gives are the run's, and the run's are those that it means
pub rows_kept : (rows kept : List Change) → storable rows ≡ Ok kept → rows ≡ kept
rows_kept rows kept is = let it = unless_ok (list_any is_large rows) FolderTooLarge (Ok rows) kept is in ok_same rows kept it.1

pub rows_small : (rows kept : List Change) → storable rows ≡ Ok kept → list_any is_large rows ≡ false
rows_small rows kept is = (unless_ok (list_any is_large rows) FolderTooLarge (Ok rows) kept is).0

pub rows_meant : (run : Run) (files : Files) (rows : List Change) → run_rows run files ≡ Ok rows → run_meant run files ≡ Ok rows
rows_meant run files rows is =
    let it = bind_ok (run_meant run files) storable rows is in
    it.1 ∙ ap (λ (xs : List Change). Ok xs) (rows_kept it.0 rows it.2)

pub rows_fit : (rows : List Change) → are_rows (rows_for rows) ≡ true → IfOk (storable rows) (λ kept. are_rows (rows_for kept) ≡ true)
rows_fit rows fine = by (list_any is_large rows)
  where
    by : (large : Bool) → IfOk (unless large FolderTooLarge (Ok rows)) (λ kept. are_rows (rows_for kept) ≡ true)
    by true = tt
    by false = fine

-- the rows of a run are such as a folder gives
pub rows_storable : (run : Run) (files : Files) (rows : List Change) → run_rows run files ≡ Ok rows → storable rows ≡ Ok rows
rows_storable run files rows is =
    let it = bind_ok (run_meant run files) storable rows is in
    subst (λ (xs : List Change). storable xs ≡ Ok rows) (rows_kept it.0 rows it.2) it.2
