-- What a run changes, as the rows of a journal.
use Rattle.std.specs.Prelude.{◌≤◌, ⊤, List, length, Result}
use Rattle.pl_base.specs.Answers.{◌>>=◌}
use Rattle.pl_base.specs.Files.{Files}
use Rattle.pl_folder.specs.declared.TheConstants.{STORED}
use Rattle.pl_journal.specs.declared.change.Change.{Change}
use Rattle.pl_batch.specs.All.{all_changes}
use Rattle.pl_change.specs.Changes.{fitting}
use Rattle.pl_change.specs.Commands.{Meaning, and_then, ready, ready_for}
use Rattle.pl_change.specs.Store.{installed}
use Rattle.pl_change.specs.Undo.{all_undone, undone}
use Rattle.pl_change.specs.declared.cause.Cause.{Cause}
use Rattle.pl_batch.specs.declared.run.Run.{Run}
use Rattle.pl_batch.specs.declared.run.Run.TheVariants.{All, UndoAll, Undo, Install}

abbrev pub changes_by : Files → Run → Result (List Change) Cause
changes_by files (All asked) = all_changes files asked
changes_by files UndoAll = all_undone files
changes_by files (Undo names) = undone files names
changes_by files (Install name bytes) = installed files name bytes

-- the rows of a command, or its first cause
unfoldable pub changes_of : Files → Run → Result (List Change) Cause
changes_of files asked = changes_by files asked >>= fitting

-- what comes before the files are looked at
abbrev pub ready_by : Run → Meaning Cause
ready_by (All asked) = ready
ready_by UndoAll = ready
ready_by (Undo names) = ready
ready_by (Install name bytes) = ready_for name

-- a whole command
abbrev pub run_meant : Run → Meaning Cause
run_meant asked = and_then (ready_by asked) (λ files. changes_of files asked)

-- what is asked of a command: bytes are no more than a folder stores
abbrev pub IsRun : Run → Type 0
IsRun (All asked) = ⊤
IsRun UndoAll = ⊤
IsRun (Undo names) = ⊤
IsRun (Install name bytes) = length bytes ≤ STORED
