-- One file of a folder, as a loader of a weave takes it.
use Rattle.std.specs.Prelude.{◌≡◌, ℕ, true, ⊤, List, Option, None, Result, Ok, Err, IfOk, Vec, if◌then◌else◌}
use Rattle.std.specs.declared.alloc.Global.{Global}
use Rattle.std.specs.FinMap.{get}
use Rattle.std.specs.Option.{option_map}
use Rattle.pl_base.specs.Files.{Files}
use Rattle.pl_base.specs.Names.{is_valid_name}
use Rattle.pl_folder.specs.Calls.{Calls}
use Rattle.pl_folder.specs.Effects.{Asks}
use Rattle.pl_folder.specs.Seen.{Ending, Done, Broken, Undone, Seen}
use Rattle.pl_folder.specs.Taken.{taken}
use Rattle.pl_folder.specs.declared.fault.FolderFault.TheVariants as folder
use Rattle.pl_weave.specs.declared.fault.WeaveFault.{WeaveFault}
use Rattle.pl_weave.specs.declared.fault.WeaveFault.TheVariants.{Failed, TooLarge, NoMemory}

-- the file of a name, where there is one. No other name than a valid one has a file
abbrev pub held_file : Files → List ℕ → Option (List ℕ)
held_file files name = if is_valid_name name then get files name else None

-- how many calls of a folder it takes to ask for the file of a name
abbrev pub asks_for : List ℕ → ℕ
asks_for name = if is_valid_name name then 1 else 0

abbrev pub fault_ending : WeaveFault → Ending
fault_ending Failed = Broken
fault_ending TooLarge = Done
fault_ending NoMemory = Undone

abbrev pub ending : {X : Type 0} → Result X WeaveFault → Ending
ending (Ok x) = Done
ending (Err fault) = fault_ending fault

-- why no file was taken: one that is too large is that of the name, which is valid
abbrev pub Untaken : List ℕ → WeaveFault → Seen → Type 0
Untaken name Failed old = ⊤
Untaken name TooLarge old = (is_valid_name name ≡ true) × (old.tells ≡ true → taken old.files name ≡ Err folder.TooLarge)
Untaken name NoMemory old = ⊤

-- the file that a folder has of a name at this moment, or that it has none; the files stay as they are
pub record HasTaken (name : List ℕ) (result : Result (Option (Vec ℕ Global)) WeaveFault) (old new : Seen) : Type 0 where
  pub file : IfOk result (λ file. old.tells ≡ true → option_map (λ bytes. bytes.items) file ≡ held_file old.files name)
  pub calls : Calls (ending result) (Asks (asks_for name)) old new
