-- What a writing command may change in a sound folder, and what it leaves.
use Rattle.std.specs.Prelude.{◌≡◌, ◌⊎◌, ℕ, Bool, true, List, Result, Ok, Err}
use Rattle.std.specs.FinMap.{get}
use Rattle.pl_base.specs.Files.{Files}
use Rattle.pl_folder.specs.Disk.{View, Disk, State}
use Rattle.pl_folder.specs.Since.{Keeps, Within}
use Rattle.pl_journal.specs.Laws.{IsRecoverable}
use Rattle.pl_journal.specs.Leaves.{Looks}
use Rattle.pl_journal.specs.Meaning.{Same, applied, mixed, rows_for}
use Rattle.pl_journal.specs.Rows.{recovered}
use Rattle.pl_journal.specs.Spelling.{are_rows}
use Rattle.pl_journal.specs.declared.change.Change.{Change}
use Rattle.pl_change.specs.Commands.{Meaning, Outcome, Made, Refused, Failed, Lacked}
use Rattle.law_folder.specs.Sound.{IsSound, KeepsTheRule}

-- ---- commands

-- the files after changes; where a cause came instead, the files before
abbrev pub changed : {C : Type 0} → Result (List Change) C → View → View
changed (Ok rows) v = applied rows v
changed (Err cause) v = v

-- the files after a command
abbrev pub after : {C : Type 0} → Meaning C → Files → View
after meant before = changed (meant before) (get before)

-- the rule is kept whichever of these changes are made
abbrev pub AreSafe : List Change → View → Type 0
AreSafe rows v = (keep : ℕ → Bool) → KeepsTheRule (mixed 0 rows keep v)

-- A command's changes fit a journal, and come only where there was none or one in its grammar; and files that keep the rule keep it whichever of them are made.
pub record IsSafe {C : Type 0} (meant : Meaning C) : Type 0 where
  pub fits : (before : Files) (rows : List Change) → meant before ≡ Ok rows → are_rows (rows_for rows) ≡ true
  pub ready : (before : Files) (rows : List Change) → meant before ≡ Ok rows → IsRecoverable (get before)
  pub safe : (before : Files) (rows : List Change) → meant before ≡ Ok rows → KeepsTheRule (get before) → AreSafe rows (get before)

-- ---- what is left

-- an image is sound, and it stands for the files before a command or for those after it
pub record IsSafeImage {C : Type 0} (meant : Meaning C) (before : Files) (image : View) : Type 0 where
  pub sound : IsSound image
  pub stands : Same (recovered image) (get before) ⊎ Same (recovered image) (after meant before)

-- Each image of a moment after the start has P. A command that failed or lacked memory may have only looked: its images are those of the start.
abbrev pub Leaves : {C : Type 0} → Outcome C → (View → Type 0) → Disk → Disk → Type 0
Leaves Made P old new = Keeps old new P
Leaves (Refused cause) P old new = Keeps old new P
Leaves Failed P old new = Looks old new ⊎ Keeps old new P
Leaves Lacked P old new = Looks old new ⊎ Keeps old new P

-- where a command is done or refused these files are the only image
abbrev pub Ends : {C : Type 0} → Outcome C → View → State → Type 0
Ends Made files s = Within s (Same files)
Ends (Refused cause) files s = Within s (Same files)
Ends Failed files s = Unit {0}
Ends Lacked files s = Unit {0}
