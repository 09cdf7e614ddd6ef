-- What a writing command makes of a folder: it recovers it, and then makes the changes that it means of the recovered files, all or none.
use Rattle.std.specs.Prelude.{◌≡◌, ◌⊎◌, ℕ, not, true, length, List, [], is_some, Result, Ok, Err}
use Rattle.std.specs.FinMap.{get}
use Rattle.pl_base.specs.Answers.{◌>>=◌, unless}
use Rattle.pl_base.specs.Files.{Files}
use Rattle.pl_base.specs.Names.{is_valid_name}
use Rattle.pl_folder.specs.Disk.{View, Disk, read}
use Rattle.pl_folder.specs.Effects.{Effect}
use Rattle.pl_folder.specs.Seen.{Ending, Seen}
use Rattle.pl_folder.specs.Since.{Keeps, Within}
use Rattle.pl_journal.specs.Leaves.{Looks}
use Rattle.pl_journal.specs.Meaning.{Same, StandsFor, StandsBetween, IsSettled, applied}
use Rattle.pl_journal.specs.Names.{journal}
use Rattle.pl_journal.specs.RealDisk.{RunsFirmlyOn}
use Rattle.pl_journal.specs.Rows.{recovered, rows_in}
use Rattle.pl_journal.specs.declared.change.Change.{Change}
use Rattle.pl_change.specs.declared.cause.Cause.{Cause}
use Rattle.pl_change.specs.declared.cause.Cause.TheVariants.{BadName, BadJournal}
use Rattle.pl_change.specs.declared.fault.BatchFault.{BatchFault}
use Rattle.pl_change.specs.declared.fault.BatchFault.TheVariants.{DiskFailed, NoMemory}
use Rattle.pl_change.specs.declared.fault.BatchFault.TheVariants as faults
use Rattle.pl_change.specs.Quiet.{WritesNothing}

-- ---- what a command means

-- the changes of a command or its first cause, as a function of the files that the folder stands for; of causes of any kind
abbrev pub Meaning : Type 0 → Type 0
Meaning C = Files → Result (List Change) C

-- the files that a folder stands for, as a finite map
abbrev pub IsBefore : View → Files → Type 0
IsBefore old before = Same (get before) (recovered old)

-- a journal outside its grammar is a cause, and such a folder stands for itself
unfoldable pub ready : Meaning Cause
ready files = unless (not (is_some (rows_in (get files journal)))) BadJournal (Ok [])

-- a name that is not valid is a cause before it
unfoldable pub ready_for : List ℕ → Meaning Cause
ready_for name files = unless (not (is_valid_name name)) BadName (ready files)

-- one command after another that changes nothing
abbrev pub and_then : {C : Type 0} → Meaning C → Meaning C → Meaning C
and_then first second files = first files >>= λ none. second files

-- ---- how a command came out

-- its changes are made; it was refused for a cause; the folder failed; or memory lacked
pub data Outcome (C : Type 0) : Type 0 where
  Made : Outcome C
  Refused : C → Outcome C
  Failed : Outcome C
  Lacked : Outcome C

abbrev pub stopped : BatchFault → Outcome Cause
stopped (faults.Cause cause) = Refused cause
stopped DiskFailed = Failed
stopped NoMemory = Lacked

abbrev pub outcome : {X : Type 0} → Result X BatchFault → Outcome Cause
outcome (Ok x) = Made
outcome (Err fault) = stopped fault

-- ---- the files as they read

pub record MakesFiles {C : Type 0} (rows : List Change) (before : Files) (new : View) (meant : Meaning C) : Type 0 where
  pub means : meant before ≡ Ok rows
  pub files : Same new (applied rows (get before))

pub record LeavesFiles {C : Type 0} (cause : C) (before new : Files) (meant : Meaning C) : Type 0 where
  pub means : meant before ≡ Err cause
  pub files : new ≡ before

-- the folder failed while the changes were made: recovered, the files are those before or those after
pub record BreaksFiles {C : Type 0} (rows : List Change) (before : Files) (new : View) (meant : Meaning C) : Type 0 where
  pub means : meant before ≡ Ok rows
  pub stands : StandsBetween (get before) rows new

-- it failed before the first change was made, and they stand for what they stood for; or after that
abbrev pub FailsFiles : {C : Type 0} → Meaning C → Files → Files → Type 0
FailsFiles meant old new = StandsFor (get old) (get new) ⊎ ((before : Files) → IsBefore (get old) before → (rows : List Change) × BreaksFiles rows before (get new) meant)

-- all changes are made; or a cause left the recovered files; or the folder failed; after want of memory they stand for what they stood for
abbrev pub CommandsFiles : {C : Type 0} → Meaning C → Outcome C → Ending → Files → Files → Type 0
CommandsFiles meant Made e old new = (before : Files) → IsBefore (get old) before → (rows : List Change) × MakesFiles rows before (get new) meant
CommandsFiles meant (Refused cause) e old new = (before : Files) → IsBefore (get old) before → LeavesFiles cause before new meant
CommandsFiles meant Failed e old new = FailsFiles meant old new
CommandsFiles meant Lacked e old new = StandsFor (get old) (get new)

-- ---- the disk

-- what a crash on the way leaves: what stands for the folder, or for the files before or for those after
abbrev pub OnTheWay : View → List Change → View → Type 0
OnTheWay old rows v = StandsFor old v ⊎ StandsBetween (recovered old) rows v

-- the changes are made: the only image is the files after them; where there are none, nothing is written
pub record MakesDisk {C : Type 0} (rows : List Change) (before : Files) (old new : Disk) (meant : Meaning C) : Type 0 where
  pub means : meant before ≡ Ok rows
  pub settled : IsSettled (applied rows (get before)) new.now
  pub on_the_way : Keeps old new (OnTheWay (read old.now) rows)
  pub quiet : rows ≡ [] → WritesNothing old new

-- a cause: the only image is the files before, and each image on the way stands for them; nothing is written
pub record LeavesDisk {C : Type 0} (cause : C) (before : Files) (old new : Disk) (meant : Meaning C) : Type 0 where
  pub means : meant before ≡ Err cause
  pub only : Within new.now (Same (get before))
  pub on_the_way : Keeps old new (StandsFor (read old.now))
  pub quiet : WritesNothing old new

-- the folder failed while the changes were made
pub record BreaksDisk {C : Type 0} (rows : List Change) (before : Files) (old new : Disk) (meant : Meaning C) : Type 0 where
  pub means : meant before ≡ Ok rows
  pub on_the_way : Keeps old new (OnTheWay (read old.now) rows)

-- it failed before it was first settled, where nothing is changed; or before the first change was made; or in between
abbrev pub FailsDisk : {C : Type 0} → Meaning C → Disk → Disk → Type 0
FailsDisk meant old new =
    Looks old new ⊎ (Keeps old new (StandsFor (read old.now)) ⊎ ((before : Files) → IsBefore (read old.now) before → (rows : List Change) × BreaksDisk rows before old new meant))

-- by how it came out
abbrev pub CommandsOn : {C : Type 0} → Meaning C → Outcome C → Disk → Disk → Type 0
CommandsOn meant Made old new = (before : Files) → IsBefore (read old.now) before → (rows : List Change) × MakesDisk rows before old new meant
CommandsOn meant (Refused cause) old new = (before : Files) → IsBefore (read old.now) before → LeavesDisk cause before old new meant
CommandsOn meant Failed old new = FailsDisk meant old new
CommandsOn meant Lacked old new = Looks old new ⊎ Keeps old new (StandsFor (read old.now))

-- and it goes on alike on a disk whose settle makes names last and no file's bytes, but for the firmness of files that were loose at its start
abbrev pub CommandsDisk : {C : Type 0} → Meaning C → Outcome C → Ending → Disk → Disk → Type 0
CommandsDisk meant o e old new = CommandsOn meant o old new × RunsFirmlyOn e old new

abbrev pub Commands : {C : Type 0} → Meaning C → Outcome C → Effect
Commands meant o = record { files = CommandsFiles meant o; disk = CommandsDisk meant o }

-- how many names a command changes, where the folder tells its files
abbrev pub Counts : {C : Type 0} → Meaning C → ℕ → Seen → Type 0
Counts meant count old = old.tells ≡ true → (before : Files) → IsBefore (get old.files) before → (rows : List Change) × (meant before ≡ Ok rows) × (count ≡ length rows)
