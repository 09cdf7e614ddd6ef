-- The calls of a folder, each as one relation between what is seen of it before and after.
use Rattle.std.specs.Prelude.{◌≡◌, ℕ, ◌≤◌, List, length, map, ⊤, true, All, IfOk, IfErr, Ok, Result, String, Vec, string_bytes}
use Rattle.std.specs.declared.alloc.Global.{Global}
use Rattle.std.specs.FinMap.{contains_key, keys}
use Rattle.pl_base.specs.Counts.{Counted}
use Rattle.pl_base.specs.Names.{IsNameLength}
use Rattle.pl_folder.specs.Effects.{Effect, Idles}
use Rattle.pl_folder.specs.Seen.{Seen, Ending, ending, is_broken}
use Rattle.pl_folder.specs.Taken.{Explains, taken}
use Rattle.pl_folder.specs.declared.TheConstants.{STORED}
use Rattle.pl_folder.specs.declared.fault.FolderFault.{FolderFault}
use Rattle.pl_folder.specs.declared.fault.FolderFault.TheVariants.{Failed, NotThere, TooLarge, NoMemory}

-- A call: it counts a fault exactly where the folder failed, and has this effect on the files and on the disk, where the folder tells them.
pub record Calls (ending : Ending) (effect : Effect) (old new : Seen) : Type 0 where
  pub tells : new.tells ≡ old.tells
  pub records : new.records ≡ old.records
  pub referent : new.referent ≡ old.referent
  pub files : old.tells ≡ true → effect.files ending old.files new.files
  pub disk : old.records ≡ true → effect.disk ending old.disk new.disk
  pub count : Counted (is_broken ending) old.faults new.faults

-- the name is there, where the folder tells its files
abbrev pub IsThere : Seen → List ℕ → Type 0
IsThere seen name = seen.tells ≡ true → contains_key seen.files name ≡ true

-- the fault of a call that only fails or lacks memory
abbrev pub IsPlain : FolderFault → Type 0
IsPlain Failed = ⊤
IsPlain NotThere = ⊥
IsPlain TooLarge = ⊥
IsPlain NoMemory = ⊤

-- `names`: all names, ascending
pub record GivesNames (result : Result (Vec (String Global) Global) FolderFault) (old new : Seen) : Type 0 where
  pub names : IfOk result (λ names. old.tells ≡ true → map string_bytes names.items ≡ keys old.files)
  pub lengths : IfOk result (λ names. All (λ name. IsNameLength (string_bytes name)) names.items)
  pub plain : IfErr result IsPlain
  pub calls : Calls (ending result) Idles old new

-- `take`: the whole file of a name, or why there is none
pub record Takes (name : List ℕ) (result : Result (Vec ℕ Global) FolderFault) (old new : Seen) : Type 0 where
  pub bytes : IfOk result (λ bytes. old.tells ≡ true → taken old.files name ≡ Ok bytes.items)
  pub stored : IfOk result (λ bytes. length bytes.items ≤ STORED)
  pub explained : IfErr result (Explains old.tells (taken old.files name))
  pub calls : Calls (ending result) Idles old new
