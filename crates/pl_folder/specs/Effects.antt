-- What a call makes of a folder, by its ending: of the files as they read, and of the disk.
use Rattle.std.specs.Prelude.{◌≡◌, ◌⊎◌, ℕ, ◌≤◌, List, [], ◌++◌, length, take, unwrap_or}
use Rattle.std.specs.FinMap.{get, insert, remove}
use Rattle.pl_base.specs.Files.{Files}
use Rattle.pl_folder.specs.Disk.{State, Disk, after, waited}
use Rattle.pl_folder.specs.Seen.{Ending, Done, Broken, Undone}
use Rattle.pl_folder.specs.States as state

-- the bytes of a name, none where it is not there
abbrev pub bytes_at : Files → List ℕ → List ℕ
bytes_at files name = unwrap_or (get files name) []

-- `create`: the name has an empty file
abbrev pub files_after_create : Files → List ℕ → Files
files_after_create files name = insert files name []

-- `append`: the file has these bytes more at its end
abbrev pub files_after_append : Files → List ℕ → List ℕ → Files
files_after_append files name bytes = insert files name (bytes_at files name ++ bytes)

-- `rename`: one name is gone, and the other has its file
abbrev pub files_after_rename : Files → List ℕ → List ℕ → Files
files_after_rename files from to = insert (remove files from) to (bytes_at files from)

-- a change, of the files as they read and of the state of the disk
pub record Update : Type 0 where
  pub files : Files → Files
  pub state : State → State

abbrev pub creates : List ℕ → Update
creates name = record { files = λ files. files_after_create files name; state = state.created name }

abbrev pub appends : List ℕ → List ℕ → Update
appends name bytes = record { files = λ files. files_after_append files name bytes; state = state.appended name bytes }

abbrev pub firms : List ℕ → Update
firms name = record { files = λ files. files; state = state.firmed name }

abbrev pub renames : List ℕ → List ℕ → Update
renames from to = record { files = λ files. files_after_rename files from to; state = state.renamed from to }

abbrev pub removes : List ℕ → Update
removes name = record { files = λ files. remove files name; state = state.removed name }

abbrev pub settles : Update
settles = record { files = λ files. files; state = state.settled }

pub record Effect : Type 1 where
  pub files : Ending → Files → Files → Type 0
  pub disk : Ending → Disk → Disk → Type 0

abbrev pub SameFiles : Ending → Files → Files → Type 0
SameFiles ending old new = new ≡ old

-- A call that failed and changed nothing; one past those that a folder records has no moment of its own.
abbrev pub Waited : Disk → Disk → Type 0
Waited old new = (new ≡ old) ⊎ (new ≡ after old.now old)

-- a moment passes; after want of memory there was none
abbrev pub Waits : Ending → Disk → Disk → Type 0
Waits Done old new = new ≡ after old.now old
Waits Broken old new = Waited old new
Waits Undone old new = new ≡ old

-- nothing changes
abbrev pub Idles : Effect
Idles = record { files = SameFiles; disk = Waits }

abbrev pub StepsFiles : (Files → Files) → Ending → Files → Files → Type 0
StepsFiles step Done old new = new ≡ step old
StepsFiles step Broken old new = (new ≡ old) ⊎ (new ≡ step old)
StepsFiles step Undone old new = new ≡ old

abbrev pub StepsDisk : (State → State) → Ending → Disk → Disk → Type 0
StepsDisk step Done old new = new ≡ after (step old.now) old
StepsDisk step Broken old new = Waited old new ⊎ (new ≡ after (step old.now) old)
StepsDisk step Undone old new = new ≡ old

-- a step; where the folder failed the step is done or not
abbrev pub Does : Update → Effect
Does step = record { files = StepsFiles step.files; disk = StepsDisk step.state }

abbrev pub StepsDiskOrNot : (State → State) → Ending → Disk → Disk → Type 0
StepsDiskOrNot step Done old new = new ≡ after (step old.now) old
StepsDiskOrNot step Broken old new = Waited old new
StepsDiskOrNot step Undone old new = new ≡ old

-- a step that changes nothing that a read gives; where the folder failed it is not done
abbrev pub DoesOrNot : Update → Effect
DoesOrNot step = record { files = SameFiles; disk = StepsDiskOrNot step.state }

abbrev pub GrowsFiles : List ℕ → List ℕ → Ending → Files → Files → Type 0
GrowsFiles name bytes Done old new = new ≡ files_after_append old name bytes
GrowsFiles name bytes Broken old new = (n : ℕ) × (n ≤ length bytes) × (new ≡ files_after_append old name (take n bytes))
GrowsFiles name bytes Undone old new = new ≡ old

abbrev pub GrowsDisk : List ℕ → List ℕ → Ending → Disk → Disk → Type 0
GrowsDisk name bytes Done old new = new ≡ after (state.appended name bytes old.now) old
GrowsDisk name bytes Broken old new = Waited old new ⊎ ((n : ℕ) × (n ≤ length bytes) × (new ≡ after (state.appended name (take n bytes) old.now) old))
GrowsDisk name bytes Undone old new = new ≡ old

-- bytes more at the end of a file; where the folder failed some first bytes, perhaps none or all
abbrev pub Appends : List ℕ → List ℕ → Effect
Appends name bytes = record { files = GrowsFiles name bytes; disk = GrowsDisk name bytes }

-- so many calls that change nothing; at most so many where the folder failed or memory lacked
abbrev pub WaitsFor : ℕ → Ending → Disk → Disk → Type 0
WaitsFor n Done old new = new ≡ waited n old
WaitsFor n Broken old new = (k : ℕ) × (k ≤ n) × (new ≡ waited k old)
WaitsFor n Undone old new = (k : ℕ) × (k ≤ n) × (new ≡ waited k old)

abbrev pub Asks : ℕ → Effect
Asks n = record { files = SameFiles; disk = WaitsFor n }
