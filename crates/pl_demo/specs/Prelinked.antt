-- The files of a folder after it was prelinked, as `-a` does.
use Rattle.std.specs.Prelude.{Bool, true, false, List, [], ◌∷◌, Result, Ok, Err}
use Rattle.std.specs.FinMap.{insert, remove}
use Rattle.pl_base.specs.Files.{Files}
use Rattle.pl_journal.specs.declared.change.Change.{Change}
use Rattle.pl_journal.specs.declared.change.Change.TheVariants.{Put, Drop}
use Rattle.pl_batch.specs.Changes.{run_meant}
use Rattle.pl_change.specs.Restored.{restored}
use Rattle.pl_change.specs.declared.cause.Cause.{Cause}
use Rattle.pl_change.specs.declared.fault.BatchFault.{BatchFault}
use Rattle.pl_change.specs.declared.fault.BatchFault.TheVariants as faults
use Rattle.pl_batch.specs.declared.run.Run.TheVariants as runs
use Rattle.pl_demo.specs.declared.prelinking.TheConstants.{ASKED}

-- files with changes made; of two of one name the first counts
abbrev pub with_rows : List Change → Files → Files
with_rows [] files = files
with_rows (Put name bytes ∷ rows) files = insert (with_rows rows files) name bytes
with_rows (Drop name ∷ rows) files = remove (with_rows rows files) name

-- a run that is refused changes nothing
abbrev pub after : Result (List Change) Cause → Files → Files
after (Ok rows) files = with_rows rows files
after (Err cause) files = files

-- the files after `-a` at moment 1
unfoldable pub prelinked : Files → Files
prelinked files = after (run_meant (runs.All ASKED) (restored files)) (restored files)

-- ---- as the code has it

-- a run stopped for a cause
abbrev pub is_refused : BatchFault → Bool
is_refused faults.DiskFailed = false
is_refused faults.NoMemory = false
is_refused (faults.Cause cause) = true
