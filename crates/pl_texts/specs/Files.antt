-- The files of a folder, as a walk looks them up.
use Rattle.std.specs.Prelude.{◌≡◌, ℕ, false, List, length, nat_lt, Option, Some, None, Result, Ok, Err, if◌then◌else◌}
use Rattle.std.specs.FinMap.{get}
use Rattle.pl_base.specs.Answers.{unless}
use Rattle.pl_base.specs.Files.{Files}
use Rattle.pl_base.specs.Names.{is_valid_name}
use Rattle.pl_folder.specs.declared.TheConstants.{STORED}
use Rattle.pl_loader.specs.declared.fault.LoadFault.TheVariants.{NotThere}
use Rattle.pl_texts.specs.declared.cause.Cause.{Cause}
use Rattle.pl_texts.specs.declared.cause.Cause.TheVariants as causes

-- the file under a valid name. No other name has one
abbrev pub valid_file : Files → List ℕ → Option (List ℕ)
valid_file files name = if is_valid_name name then get files name else None

-- a file that was looked up: it is to be there, and no longer than a folder gives
abbrev pub of_file : List ℕ → Option (List ℕ) → Result (List ℕ) Cause
of_file name None = Err (causes.Load (NotThere name))
of_file name (Some bytes) = unless (nat_lt STORED (length bytes)) (causes.FileTooLarge name) (Ok bytes)

unfoldable pub file_in : Files → List ℕ → Result (List ℕ) Cause
file_in files name = of_file name (valid_file files name)

-- a name that is not valid is asked for nowhere
abbrev pub Unasked : {F : Type 0} → List ℕ → F → F → Type 0
Unasked name old new = is_valid_name name ≡ false → new ≡ old
