-- What contracts see of a folder, as one value, and how a call of it ends.
use Rattle.std.specs.Prelude.{◌≡◌, ℕ, List, Bool, true, false, Result, Ok, Err}
use Rattle.std.specs.FinMap.{get}
use Rattle.pl_base.specs.Files.{Files}
use Rattle.pl_io.specs.declared.failed.Failed.{Failed}
use Rattle.pl_folder.specs.Disk.{Disk, IsWhole, read}
use Rattle.pl_folder.specs.declared.fault.FolderFault.{FolderFault}
use Rattle.pl_folder.specs.declared.fault.FolderFault.TheVariants as faults

-- whether it tells its files, and its disk too; these; how many calls have failed; and where a reference points
pub record Seen : Type 0 where
  pub tells : Bool
  pub records : Bool
  pub files : Files
  pub disk : Disk
  pub faults : ℕ
  pub referent : ℕ

-- What holds of every folder: one that tells its disk tells its files, which are what the disk reads; and no name was ever bound to a file that is yet to come.
pub record IsFolder (seen : Seen) : Type 0 where
  pub tells : seen.records ≡ true → seen.tells ≡ true
  pub reads : seen.records ≡ true → (n : List ℕ) → get seen.files n ≡ read seen.disk.now n
  pub whole : seen.records ≡ true → IsWhole seen.disk.now

-- a call is done, or the folder failed in it and it may be done or not, or it is not done
pub data Ending : Type 0 where
  Done : Ending
  Broken : Ending
  Undone : Ending

abbrev pub is_broken : Ending → Bool
is_broken Done = false
is_broken Broken = true
is_broken Undone = false

-- a file that is not there or too large is an answer; after want of memory nothing is done
abbrev pub fault_ending : FolderFault → Ending
fault_ending faults.Failed = Broken
fault_ending faults.NotThere = Done
fault_ending faults.TooLarge = Done
fault_ending faults.NoMemory = Undone

abbrev pub ending : {X : Type 0} → Result X FolderFault → Ending
ending (Ok x) = Done
ending (Err fault) = fault_ending fault

-- of a call whose one fault is that it fails
abbrev pub ends : {X : Type 0} → Result X Failed → Ending
ends (Ok x) = Done
ends (Err fault) = Broken
