-- What the commands of a run mean of a folder, and what a run leaves of a sound one.
use Rattle.std.specs.Prelude.{◌≡◌, ◌⊎◌, ℕ, ◌<◌, Bool, true, false, List, [], Option, Some, None, Ok}
use Rattle.pl_base.specs.Files.{Files}
use Rattle.pl_base.specs.Names.{is_valid_name}
use Rattle.pl_change.specs.Commands.{Meaning}
use Rattle.pl_batch.specs.Folder.{named}
use Rattle.pl_change.specs.Restored.{restored}
use Rattle.pl_batch.specs.declared.prelinking.Prelinking.{Prelinking}
use Rattle.pl_batch.specs.declared.run.Run.TheVariants as runs
use Rattle.pl_cli.specs.Writes.{fixes, loosens, prelinks, removes, stores, undoes}
use Rattle.pl_cli.specs.Cause.{Cause}
use Rattle.pl_cli.specs.declared.command.Command.{Command}
use Rattle.pl_cli.specs.declared.command.Command.TheVariants.{All, UndoAll, Undo, Store, Remove, Fix, Unfix}
use Rattle.pl_words.specs.declared.status.Status.{Status}
use Rattle.pl_words.specs.declared.status.Status.TheVariants as statuses
use Rattle.law_folder.specs.Originals.{SameOriginals, originals}
use Rattle.law_folder.specs.Safe.{IsSafeImage}
use Rattle.law_folder.specs.Steps.{IsPastAll}
use Rattle.law_folder.specs.All.{HasNext}
use Rattle.pl_folder.specs.Disk.{Disk, Name, State, View, clock, same}
use Rattle.pl_folder.specs.Seen.{Seen}
use Rattle.pl_folder.specs.Since.{Keeps, Since}
use Rattle.pl_journal.specs.Leaves.{Looks}
use Rattle.pl_journal.specs.RealDisk.{DiskCall, LosesLoose, real_by}
use Rattle.pl_journal.specs.Rows.{recovered}
use Rattle.pl_rewrite.specs.Changes.{from_scratch}

-- ---- commands

-- no changes
abbrev pub nothing : Meaning Cause
nothing files = Ok []

-- the changes of a command, by the bytes of its input; one that only reads has none
abbrev pub meaning : Option Command → List ℕ → Meaning Cause
meaning (Some (All asked detail)) bytes = prelinks asked
meaning (Some UndoAll) bytes = undoes runs.UndoAll
meaning (Some (Undo names)) bytes = undoes (runs.Undo names)
meaning (Some (Store name kind)) bytes = stores name kind bytes
meaning (Some (Remove name)) bytes = removes name
meaning (Some (Fix name policy)) bytes = fixes policy name
meaning (Some (Unfix name)) bytes = loosens name
meaning _ bytes = nothing

abbrev pub writes : Option Command → Bool
writes (Some (All asked detail)) = true
writes (Some UndoAll) = true
writes (Some (Undo names)) = true
writes (Some (Store name kind)) = true
writes (Some (Remove name)) = true
writes (Some (Fix name policy)) = true
writes (Some (Unfix name)) = true
writes _ = false

-- the name whose original a command may change
abbrev pub changed_name : Option Command → Option Name
changed_name (Some (Store name kind)) = Some name
changed_name (Some (Remove name)) = Some name
changed_name (Some (Fix name policy)) = Some name
changed_name (Some (Unfix name)) = Some name
changed_name _ = None

-- every other name keeps its own
abbrev pub KeepsOriginals : Option Name → View → View → Type 0
KeepsOriginals None old new = SameOriginals new old
KeepsOriginals (Some name) old new = (n : Name) → same n name ≡ false → originals new n ≡ originals old n

-- a run that ended so has done its command, or it was refused
abbrev pub is_whole : Status → Bool
is_whole statuses.Done = true
is_whole statuses.Refused = true
is_whole statuses.WriteFault = true
is_whole _ = false

-- ---- what a run leaves

-- It only looked, and its images are those of the start; or each image of a moment after the start is sound, and stands for the files before it or for those after it.
abbrev pub LeavesSound : Meaning Cause → Seen → Seen → Type 0
LeavesSound meant a b = Looks a.disk b.disk ⊎ Keeps a.disk b.disk (IsSafeImage meant (restored a.files))

-- ---- on a disk whose settle makes names last and no file's bytes

-- what such a disk is after these calls
abbrev pub now_by : List DiskCall → Disk → State
now_by calls old = (real_by calls old).now

-- each image of such a disk of a moment after the start is one that has P, but for names that were loose at the start
abbrev pub RealKeeps : List DiskCall → Disk → (View → Type 0) → Type 0
RealKeeps calls old P = (t : ℕ) (image : View) → clock old < t → Since (real_by calls old) t image → (other : View) × P other × LosesLoose old.now other image

-- ---- what prelinking everything gives

-- each valid name has what prelinking everything from scratch gives of the files before, and the cache is the planned one
pub record IsFromScratch (before : Files) (p : Prelinking) (after : View) : Type 0 where
  pub next : HasNext before p after
  pub each : (n : Name) → is_valid_name n ≡ true → after n ≡ from_scratch (named before) p.region next.plan n

-- ---- stamps

-- in the files that it stands for no stamp is past the last one of their cache
abbrev pub StandsPastAll : View → Type 0
StandsPastAll v = IsPastAll (recovered v)

-- a run only looked, or that holds of each image of a moment after its start
abbrev pub LeavesPastAll : Seen → Seen → Type 0
LeavesPastAll a b = Looks a.disk b.disk ⊎ Keeps a.disk b.disk StandsPastAll
