-- What the commands change that replace the file of a name by what they make of its original: fixing a position-independent program, and loosening a fixed one.
use Rattle.std.specs.Prelude.{◌≡◌, ℕ, true, not, ⊤, List, Option, Some, None, Result, Ok, Err, IfOk}
use Rattle.std.specs.FinMap.{get}
use Rattle.pl_base.specs.Answers.{◌>>=◌, unless}
use Rattle.pl_base.specs.Files.{Files}
use Rattle.pl_base.specs.Names.{is_valid_name}
use Rattle.pl_pie.specs.Placed.{placed}
use Rattle.pl_pie.specs.declared.placing.Placing.{Placing}
use Rattle.pl_pie.specs.declared.placing.Placing.TheVariants as placings
use Rattle.pl_folder.specs.Calls.{Calls}
use Rattle.pl_folder.specs.Seen.{Seen}
use Rattle.pl_form.specs.Files.{file_in}
use Rattle.pl_journal.specs.declared.change.Change.{Change}
use Rattle.pl_pie.specs.Fix.{unfixed}
use Rattle.pl_place.specs.Policy.{Choice}
use Rattle.pl_change.specs.Answers.{Finds, ending}
use Rattle.pl_change.specs.Changes.{fitting}
use Rattle.pl_change.specs.Commands.{Commands, IsBefore, Meaning, and_then, outcome, ready_for}
use Rattle.pl_change.specs.Names.{file_of}
use Rattle.pl_change.specs.Store.{put, stored_as}
use Rattle.pl_change.specs.declared.cause.Cause.{Cause}
use Rattle.pl_change.specs.declared.cause.Cause.TheVariants.{BadName, NoPlace, NotFixed, NotPie}
use Rattle.pl_change.specs.declared.fault.BatchFault.{BatchFault}
use Rattle.pl_change.specs.declared.fault.BatchFault.TheVariants.{DiskFailed, NoMemory}
use Rattle.pl_change.specs.declared.fault.BatchFault.TheVariants as faults
use Rattle.pl_change.specs.declared.fixing.FixMade.{FixMade}
use Rattle.pl_change.specs.declared.fixing.FixedFile.{FixedFile}

-- ---- a file is replaced

-- the original of the file of a name: valid, there, of a file that is not too large and has no false mark
unfoldable pub original_of : Files → List ℕ → Result (List ℕ) Cause
original_of files name = unless (not (is_valid_name name)) BadName (file_of files name >>= λ bytes. stored_as name bytes (file_in bytes))

-- the name gets these bytes, where a journal can have the row
abbrev pub put_fitting : Files → List ℕ → List ℕ → Result (List Change) Cause
put_fitting files name bytes = fitting (put files name bytes)

-- the name gets what is made of its original
unfoldable pub replacement_of : (List ℕ → Result (List ℕ) Cause) → Files → List ℕ → Result (List Change) Cause
replacement_of make files name = original_of files name >>= λ original. make original >>= put_fitting files name

-- a whole command
abbrev pub replacing_meant : (List ℕ → Result (List ℕ) Cause) → List ℕ → Meaning Cause
replacing_meant make name = and_then (ready_for name) (λ files. replacement_of make files name)

-- ---- fixing

-- a fault that is none of the folder
abbrev pub IsAlone : BatchFault → Type 0
IsAlone DiskFailed = ⊥
IsAlone NoMemory = ⊤
IsAlone (faults.Cause cause) = ⊤

abbrev pub fixed_by : List ℕ → Placing → Result FixedFile Cause
fixed_by name placings.NotPie = Err (NotPie name)
fixed_by name placings.NoPlace = Err (NoPlace name)
fixed_by name (placings.Fixed at bytes) = Ok (record { address = at; bytes = bytes })

-- the program that an original becomes where a policy places it
unfoldable pub fixed_of : Choice → List ℕ → List ℕ → Result FixedFile Cause
fixed_of choose name original = fixed_by name (placed choose original)

-- its bytes
unfoldable pub fixed_as : Choice → List ℕ → List ℕ → Result (List ℕ) Cause
fixed_as choose name original = fixed_of choose name original >>= λ fixed. Ok fixed.bytes

abbrev pub fixing_meant : Choice → List ℕ → Meaning Cause
fixing_meant choose name = replacing_meant (fixed_as choose name) name

-- the address at which the program of a name is fixed
unfoldable pub address_of : Choice → Files → List ℕ → Result ℕ Cause
address_of choose files name = original_of files name >>= λ original. fixed_of choose name original >>= λ fixed. Ok fixed.address

-- an answer is the address of the program of the files that a folder stands for, where it tells them
abbrev pub TellsAddress : Choice → List ℕ → ℕ → Seen → Type 0
TellsAddress choose name at old = old.tells ≡ true → (before : Files) → IsBefore (get old.files) before → address_of choose before name ≡ Ok at

-- the rows of the command and the address are found in a folder, by a policy that is a function
pub record FindsFixed (choose : Choice) (name : List ℕ) (result : Result FixMade BatchFault) (old new : Seen) : Type 0 where
  pub found : Finds (replacement_of (fixed_as choose name) old.files name) (λ made. made.rows) result old new
  pub told : IfOk result (λ made. old.tells ≡ true → address_of choose old.files name ≡ Ok made.address)

-- a whole command by such a policy: what its calls make of the folder, and that the answer is the address
pub record Fixes (choose : Choice) (name : List ℕ) (result : Result ℕ BatchFault) (old new : Seen) : Type 0 where
  pub calls : Calls (ending result) (Commands (fixing_meant choose name) (outcome result)) old new
  pub told : IfOk result (λ at. TellsAddress choose name at old)

-- ---- loosening

abbrev pub loosened_by : List ℕ → Option (List ℕ) → Result (List ℕ) Cause
loosened_by name None = Err (NotFixed name)
loosened_by name (Some bytes) = Ok bytes

-- the position-independent program of which an original is the fixed one
unfoldable pub loosened_of : List ℕ → List ℕ → Result (List ℕ) Cause
loosened_of name original = loosened_by name (unfixed original)

abbrev pub loosening_meant : List ℕ → Meaning Cause
loosening_meant name = replacing_meant (loosened_of name) name
