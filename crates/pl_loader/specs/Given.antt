-- What is loaded of the files of a program's walk: of its own file, where that is a position-independent program, the program that it becomes where a policy places it; each other file is loaded as it is.
use Rattle.std.specs.Prelude.{◌≡◌, ℕ, List, Option, Some, None, IfSome, Result, Ok, Err, if◌then◌else◌}
use Rattle.std.specs.Borrow.{Bor}
use Rattle.std.specs.Str.{bytes_eq}
use Rattle.pl_base.specs.Answers.{◌>>=◌, Answers, because}
use Rattle.pl_elf.specs.declared.range.Range.{Range}
use Rattle.pl_form.specs.Files.{file_in}
use Rattle.pl_form.specs.declared.file.File.TheVariants.{Plain}
use Rattle.pl_object.specs.Reads.{reads}
use Rattle.pl_object.specs.declared.object.Object.{Object}
use Rattle.pl_pie.specs.Placed.{placed}
use Rattle.pl_pie.specs.declared.placing.Placing.{Placing}
use Rattle.pl_pie.specs.declared.placing.Placing.TheVariants.{NotPie, NoPlace, Fixed}
use Rattle.pl_loader.specs.Faults.{is_memory}
use Rattle.pl_loader.specs.declared.fault.LoadFault.{LoadFault}
use Rattle.pl_loader.specs.declared.fault.LoadFault.TheVariants as faults
use Rattle.pl_place.specs.Policy.{Answering, Choice, Chooses, Follows, MayChoose}

-- ---- what a load is given

-- an object is read of a file that is no prelinked one, and bears no mark
pub record IsReadPlain (bytes : List ℕ) (o : Object) : Type 0 where
  pub read : reads bytes ≡ Ok o
  pub file : file_in bytes ≡ Ok (Plain o)

-- what is known of a file is so
abbrev pub IsReadIfAny : List ℕ → Option Object → Type 0
IsReadIfAny bytes object = IfSome object (IsReadPlain bytes)

-- ---- what is loaded of a file

abbrev pub first_by : List ℕ → List ℕ → Placing → Result (List ℕ) LoadFault
first_by name bytes NotPie = Ok bytes
first_by name bytes NoPlace = Err (faults.NoPlace name)
first_by name bytes (Fixed at file) = Ok file

-- the bytes of the program's file, by a policy that is a function. What is busy does not count
unfoldable pub first_of : Choice → List ℕ → List ℕ → Result (List ℕ) LoadFault
first_of choose name bytes = first_by name bytes (placed choose bytes)

-- those of the file of n, a name of the walk of `name`
abbrev pub given_of : Choice → List ℕ → List ℕ → List ℕ → Result (List ℕ) LoadFault
given_of choose name n bytes = if bytes_eq n name then first_of choose name bytes else Ok bytes

-- the result is the file that is loaded of n, whichever function the policy follows, or want of memory
abbrev pub GivesFile : Answering → List ℕ → List ℕ → List ℕ → Result (List ℕ) LoadFault → Type 0
GivesFile post name n bytes result = (choose : Choice) → Follows post choose → Answers is_memory result (given_of choose name n bytes)

-- that file, where there is one
abbrev pub given : Choice → List ℕ → List ℕ → Option (List ℕ) → Result (Option (List ℕ)) LoadFault
given choose name n None = Ok None
given choose name n (Some bytes) = given_of choose name n bytes >>= λ file. Ok (Some file)

-- the result is that file, where there is one, whichever function the policy follows, or want of memory
abbrev pub GivesFileIfThere : Answering → List ℕ → List ℕ → Option (List ℕ) → Result (Option (List ℕ)) LoadFault → Type 0
GivesFileIfThere post name n file result = (choose : Choice) → Follows post choose → Answers is_memory result (given choose name n file)

-- all files of the walk, where `file` tells what a name's file holds, or why there is none
unfoldable pub given_from : {E : Type 0} → Choice → (LoadFault → E) → (List ℕ → Result (List ℕ) E) → List ℕ → List ℕ → Result (List ℕ) E
given_from choose fault file name n = file n >>= λ bytes. because fault (given_of choose name n bytes)

-- a policy that may be asked for each place, and answers as it may
pub record MayPlace {F : Type 0} (pre : F → Bor (List Range) → ℕ → ℕ → Type 0) (post : F → Bor (List Range) → ℕ → ℕ → Option ℕ → Type 0) (policy : F) : Type 0 where
  pub may : MayChoose (pre policy)
  pub chooses : Chooses (post policy)
