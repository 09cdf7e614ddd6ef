-- What a run and a recovery leave, moment by moment.
use Rattle.std.specs.Prelude.{◌≡◌, ◌⊎◌, ℕ, ◌<◌, true, List, Some, get_or, is_some, length}
use Rattle.std.specs.FinMap.{get}
use Rattle.pl_folder.specs.Calls.{Calls}
use Rattle.pl_folder.specs.Disk.{View, Disk, IsCrashImage, clock}
use Rattle.pl_folder.specs.Seen.{Seen, Undone}
use Rattle.pl_folder.specs.Since.{Since, Keeps}
use Rattle.pl_journal.specs.Meaning.{Edit, HasNoOwn, Same, StandsBetween, StandsFor, applied, rows_for}
use Rattle.pl_journal.specs.Names.{journal}
use Rattle.pl_journal.specs.Parts.{Recovers, committed, journal_of}
use Rattle.pl_journal.specs.Phases.{Committing, Finishing, IsStep, Midway, RowAt, Untouched, all_staged, finished}
use Rattle.pl_journal.specs.Leaves.{DoEdits}
use Rattle.pl_journal.specs.Rows.{rows_in}
use Rattle.pl_journal.specs.Spelling.{are_rows}
use Rattle.pl_journal.specs.declared.fault.JournalFault.TheVariants.{BadJournal}
use Rattle.pl_journal.specs.declared.row.Row.{Row}
use Rattle.pl_journal.specs.declared.step.Step.{Step}
use Rattle.pl_journal.specs.declared.step.Step.TheVariants.{Skip}

-- each image since the start is one of the start's, or has P
abbrev pub SinceTheStart : (View → Type 0) → Type 0
SinceTheStart P = (old new : Disk) → Keeps old new P → (v : View) → Since new (clock old) v → IsCrashImage old.now v ⊎ P v

-- after the first moment it has P
abbrev pub AfterTheStart : (View → Type 0) → Type 0
AfterTheStart P = (old new : Disk) → Keeps old new P → (t : ℕ) (v : View) → clock old < t → Since new t v → P v

-- what a crash of staging leaves stands for the files before
abbrev pub StagingStands : Type 0
StagingStands = (before v : View) → HasNoOwn before → Untouched before v → StandsFor before v

-- what has P in a run of changes stands for the files before or for those after
abbrev pub RunStands : (View → List Edit → View → Type 0) → Type 0
RunStands P = (before : View) (edits : List Edit) → HasNoOwn before → are_rows (rows_for edits) ≡ true → (v : View) → P before edits v → StandsBetween before edits v

-- so does what a crash of the commit leaves, of the rows, and of the end
abbrev pub CommitStands : Type 0
CommitStands = RunStands (λ before edits v. Committing before (all_staged edits (journal_of edits) before) (rows_for edits) v)

-- of the rows: what a crash between two renames leaves (`Midway`)
abbrev pub RowsStand : Type 0
RowsStand = RunStands (λ before edits v. Midway (committed edits before) (rows_for edits) v)

abbrev pub FinishStands : Type 0
FinishStands = RunStands (λ before edits v. Finishing (committed edits before) (rows_for edits) v)

-- the steps of the changes do the rows of the committed journal, one each
abbrev pub StepsDoRows : Type 0
StepsDoRows =
    (before : View) (edits : List Edit) (steps : List Step) → HasNoOwn before → are_rows (rows_for edits) ≡ true → DoEdits 0 edits steps → (k : ℕ) → k < length steps → (row : Row) × RowAt 0 (rows_for edits) k row × IsStep (committed edits before) k row (get_or steps k Skip)

-- and with the end the changes are made
abbrev pub RunsEnd : Type 0
RunsEnd = (before : View) (edits : List Edit) → HasNoOwn before → are_rows (rows_for edits) ≡ true → Same (finished (committed edits before) (rows_for edits)) (applied edits before)

-- there is no journal, or it is in its grammar
abbrev pub IsRecoverable : View → Type 0
IsRecoverable v = is_some (rows_in (v journal)) ≡ true

-- so it is in what a crash of a run leaves
abbrev pub RunsLeave : Type 0
RunsLeave = (before : View) (edits : List Edit) → HasNoOwn before → are_rows (rows_for edits) ≡ true → (v : View) → StandsBetween before edits v → IsRecoverable v

-- and in what a crash of a recovery leaves
abbrev pub RecoveriesLeave : Type 0
RecoveriesLeave = (before v : View) → IsRecoverable before → StandsFor before v → IsRecoverable v

-- and then no recovery ends by a bad journal
abbrev pub RecoveriesEnd : Type 0
RecoveriesEnd = (old new : Seen) → old.tells ≡ true → IsRecoverable (get old.files) → Calls Undone (Recovers (Some BadJournal)) old new → ⊥
