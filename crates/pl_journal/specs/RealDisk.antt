-- A disk as real ones are: a settle makes names last, and no file's bytes.
use Rattle.std.specs.Prelude.{◌≡◌, ◌⊎◌, ℕ, ◌<◌, ◌≤◌, Bool, true, false, List, [], ◌∷◌, Some}
use Rattle.pl_folder.specs.Disk.{Name, View, State, Disk, IsCrashImage, after, clock, kept, names_of, read}
use Rattle.pl_folder.specs.Seen.{Ending, Seen}
use Rattle.pl_folder.specs.Since.{Keeps, Since}
use Rattle.pl_folder.specs.States.{appended, created, firmed, removed, renamed, settled}
use Rattle.pl_journal.specs.Parts.{AtDone}

-- a call, as a disk has it
pub data DiskCall : Type 0 where
  Wait : DiskCall
  Create : Name → DiskCall
  Append : Name → List ℕ → DiskCall
  Firm : Name → DiskCall
  Rename : Name → Name → DiskCall
  Remove : Name → DiskCall
  Settle : DiskCall

-- names last as they read, and a file is as firm as it was
abbrev pub names_settled : State → State
names_settled s = record s { base = names_of s; changes = [] }

-- what a call makes of a state, on a disk whose settle makes this of it
abbrev pub step_by : (State → State) → DiskCall → State → State
step_by settle Wait s = s
step_by settle (Create name) s = created name s
step_by settle (Append name bytes) s = appended name bytes s
step_by settle (Firm name) s = firmed name s
step_by settle (Rename from to) s = renamed from to s
step_by settle (Remove name) s = removed name s
step_by settle Settle s = settle s

-- what calls make of a disk, the first of them first
abbrev pub disk_by : (State → State) → List DiskCall → Disk → Disk
disk_by settle [] d = d
disk_by settle (call ∷ calls) d = disk_by settle calls (after (step_by settle call d.now) d)

-- what they make of one whose settle makes names last and no file's bytes
abbrev pub real_by : List DiskCall → Disk → Disk
real_by = disk_by names_settled

-- ---- what a run leaves alone

-- a run that began in one state and is in the other did not make this file
abbrev pub IsNotMade : State → State → ℕ → Type 0
IsNotMade start s file = (file < start.count) ⊎ (s.count ≤ file)

-- A file that was loose, that is not firm, at the start of a run, and that the run left alone: it did not make it, and the file has the bytes of the start, and
-- no name that it did not have then.
pub record IsLeftLoose (start s : State) (file : ℕ) : Type 0 where
  pub loose : (start.files file).is_firm ≡ false
  pub not_made : IsNotMade start s file
  pub bytes : (s.files file).bytes ≡ (start.files file).bytes
  pub names : (n : Name) → names_of s n ≡ Some file → names_of start n ≡ Some file

-- Such a file, which is loose on the real disk and may be firm on the other. A crash gives it no other name either.
pub record IsLooseThere (start s real : State) (file : ℕ) : Type 0 where
  pub there : real.files file ≡ record { bytes = (s.files file).bytes; is_firm = false }
  pub left : IsLeftLoose start s file
  pub names : (keep : List Bool) (n : Name) → kept keep s.changes s.base n ≡ Some file → names_of start n ≡ Some file

-- ---- the same run on both disks

-- One moment of a run on both: the same names, and each file with the same bytes and as firm, but for files that the run left loose.
pub record IsAlike (start s real : State) : Type 0 where
  pub base : real.base ≡ s.base
  pub changes : real.changes ≡ s.changes
  pub count : real.count ≡ s.count
  pub files : (file : ℕ) → (real.files file ≡ s.files file) ⊎ IsLooseThere start s real file

-- so it is of as many moments
abbrev pub AreAlike : State → List State → List State → Type 0
AreAlike start [] [] = Unit {0}
AreAlike start [] (r ∷ reals) = ⊥
AreAlike start (s ∷ states) [] = ⊥
AreAlike start (s ∷ states) (r ∷ reals) = IsAlike start s r × AreAlike start states reals

-- and of each moment of two disks
abbrev pub StaysAlike : State → Disk → Disk → Type 0
StaysAlike start d real = AreAlike start (d.now ∷ d.past) (real.now ∷ real.past)

-- And now each file is firm on the real disk, but for files that the run left loose.
pub record IsBeside (start : State) (d real : Disk) : Type 0 where
  pub alike : StaysAlike start d real
  pub firm : (file : ℕ) → ((real.now.files file).is_firm ≡ true) ⊎ IsLeftLoose start d.now file

-- By some calls one disk became the other. By the same ones a real disk beside it stays alike, whenever the run began that they are a part of; and where they
-- are done it is beside it again: each file that the run made is firm.
pub record RunsFirmlyOn (e : Ending) (old new : Disk) : Type 0 where
  pub calls : List DiskCall
  pub made : new ≡ disk_by settled calls old
  pub alike : (start : State) (real : Disk) → IsBeside start old real → StaysAlike start new (real_by calls real)
  pub firm : AtDone e ((start : State) (real : Disk) → IsBeside start old real → IsBeside start new (real_by calls real))

-- so it is of a folder that tells its disk
pub record RunsFirmly (e : Ending) (old new : Seen) : Type 0 where
  pub records : new.records ≡ old.records
  pub disk : old.records ≡ true → RunsFirmlyOn e old.disk new.disk

-- ---- laws

-- Each disk is beside itself; so a run stays alike on a real disk that is the same at its start, and where it is done each file that it made is firm there.
abbrev pub RunsBeside : Type 0
RunsBeside =
    (e : Ending) (old new : Disk) (run : RunsFirmlyOn e old new) → StaysAlike old.now new (real_by run.calls old) × AtDone e (IsBeside old.now new (real_by run.calls old))

-- each file is firm
abbrev pub AllFirm : State → Type 0
AllFirm s = (file : ℕ) → (s.files file).is_firm ≡ true

-- where each was at the start, the two disks are the same, and each is where the run is done
abbrev pub FirmDisksStaySame : Type 0
FirmDisksStaySame = (e : Ending) (old new : Disk) (run : RunsFirmlyOn e old new) → AllFirm old.now → (new ≡ real_by run.calls old) × AtDone e (AllFirm new.now)

-- a name whose file is loose
abbrev pub IsLooseName : State → Name → Type 0
IsLooseName s n = (file : ℕ) × (names_of s n ≡ Some file) × ((s.files file).is_firm ≡ false)

-- each name has what it has in an image, or was loose at the start, and has in that image what it had then
abbrev pub LosesLoose : State → View → View → Type 0
LosesLoose start image v = (n : Name) → (v n ≡ image n) ⊎ (IsLooseName start n × (image n ≡ read start n))

-- What a crash of the real disk leaves, since a moment of the run, is an image of the other since then, but for names that were loose at the start.
abbrev pub RealImages : Type 0
RealImages =
    (e : Ending) (old new : Disk) (run : RunsFirmlyOn e old new) (t : ℕ) (v : View) → Since (real_by run.calls old) t v → (image : View) × Since new t image × LosesLoose old.now image v

-- so what it leaves after the first moment is something that has P, but for such names
abbrev pub OnRealDisk : (View → Type 0) → Type 0
OnRealDisk P =
    (e : Ending) (old new : Disk) (run : RunsFirmlyOn e old new) → Keeps old new P
    → (t : ℕ) (v : View) → clock old < t → Since (real_by run.calls old) t v → (image : View) × P image × LosesLoose old.now image v

-- and what such a name has could have been left by a crash at the start, once the names of the start last
abbrev pub LostWithoutARun : Type 0
LostWithoutARun =
    (start : State) (image v : View) → LosesLoose start image v
    → (could : View) × IsCrashImage (names_settled start) could × ((n : Name) → (v n ≡ image n) ⊎ ((image n ≡ read start n) × (v n ≡ could n)))
