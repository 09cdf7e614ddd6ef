-- How a call's answer is compared with what is meant, and how it ends for the folder.
use Rattle.std.specs.Prelude.{◌≡◌, ℕ, true, ⊤, List, Result, Ok, Err}
use Rattle.pl_folder.specs.Calls.{Calls}
use Rattle.pl_folder.specs.declared.fault.FolderFault.{FolderFault}
use Rattle.pl_folder.specs.declared.fault.FolderFault.TheVariants as folder_faults
use Rattle.pl_folder.specs.Seen.{Seen, Ending, Done, Broken, Undone}
use Rattle.pl_journal.specs.Parts.{Looking}
use Rattle.pl_journal.specs.declared.fault.JournalFault.{JournalFault}
use Rattle.pl_journal.specs.declared.fault.JournalFault.TheVariants as journal_faults
use Rattle.pl_scope.specs.declared.fault.WalkFault.{WalkFault}
use Rattle.pl_scope.specs.declared.fault.WalkFault.TheVariants as walks
use Rattle.pl_change.specs.declared.cause.Cause.{Cause}
use Rattle.pl_change.specs.declared.cause.Cause.TheVariants as causes
use Rattle.pl_change.specs.declared.fault.BatchFault.{BatchFault}
use Rattle.pl_change.specs.declared.fault.BatchFault.TheVariants.{DiskFailed, NoMemory}
use Rattle.pl_change.specs.declared.fault.BatchFault.TheVariants as faults

-- a refused command is done with the folder; one that failed broke off; want of memory undoes
abbrev pub fault_ending : BatchFault → Ending
fault_ending DiskFailed = Broken
fault_ending NoMemory = Undone
fault_ending (faults.Cause cause) = Done

abbrev pub ending : {X : Type 0} → Result X BatchFault → Ending
ending (Ok x) = Done
ending (Err fault) = fault_ending fault

-- a cause is the one that is meant, where all that it rests on is told; a failed folder and a want of memory mean nothing
abbrev pub BatchStops : {X : Type 0} → Type 0 → Result X Cause → BatchFault → Type 0
BatchStops told meant DiskFailed = ⊤
BatchStops told meant NoMemory = ⊤
BatchStops told meant (faults.Cause cause) = told → meant ≡ Err cause

-- a value, seen by a view, and a cause are the ones that are meant
abbrev pub BatchMeans : {X Y : Type 0} → Type 0 → Result X Cause → (Y → X) → Result Y BatchFault → Type 0
BatchMeans told meant view (Ok y) = told → meant ≡ Ok (view y)
BatchMeans told meant view (Err fault) = BatchStops told meant fault

-- the same of a call that asks nothing of the folder
abbrev pub BatchStopsAlone : {X : Type 0} → Result X Cause → BatchFault → Type 0
BatchStopsAlone meant DiskFailed = ⊥
BatchStopsAlone meant NoMemory = ⊤
BatchStopsAlone meant (faults.Cause cause) = meant ≡ Err cause

abbrev pub BatchMeansAlone : {X : Type 0} → Result X Cause → Result X BatchFault → Type 0
BatchMeansAlone meant (Ok x) = meant ≡ Ok x
BatchMeansAlone meant (Err fault) = BatchStopsAlone meant fault

-- a value or a cause that is found in a folder, whose files stay as they are: its calls only read
pub record Finds {X Y : Type 0} (meant : Result X Cause) (view : Y → X) (result : Result Y BatchFault) (old new : Seen) : Type 0 where
  pub means : BatchMeans (old.tells ≡ true) meant view result
  pub calls : Calls (ending result) Looking old new

-- a fault of the folder in a call that is given no file to take
abbrev pub of_folder : FolderFault → BatchFault
of_folder folder_faults.Failed = DiskFailed
of_folder folder_faults.NotThere = DiskFailed
of_folder folder_faults.TooLarge = DiskFailed
of_folder folder_faults.NoMemory = NoMemory

-- the same where the file of a name was to be taken
abbrev pub of_take : List ℕ → FolderFault → BatchFault
of_take name folder_faults.Failed = DiskFailed
of_take name folder_faults.NotThere = faults.Cause (causes.NotThere name)
of_take name folder_faults.TooLarge = faults.Cause (causes.FileTooLarge name)
of_take name folder_faults.NoMemory = NoMemory

-- a fault of the journal
abbrev pub of_journal : JournalFault → BatchFault
of_journal journal_faults.Failed = DiskFailed
of_journal journal_faults.BadJournal = faults.Cause causes.BadJournal
of_journal journal_faults.NoMemory = NoMemory

-- a fault of a walk
abbrev pub of_walk_fault : WalkFault → BatchFault
of_walk_fault (walks.NeededIsProgram n) = faults.Cause (causes.NeededIsProgram n)
of_walk_fault (walks.TooMany n) = faults.Cause (causes.TooMany n)
of_walk_fault (walks.NotThere n) = faults.Cause (causes.NotThere n)
of_walk_fault walks.NoMemory = NoMemory
