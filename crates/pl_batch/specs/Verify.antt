-- Whether a file is the prelinked file of the originals that are there, as a command tells it.
use Rattle.std.specs.Prelude.{◌≡◌, ℕ, false, not, List, Option, Some, None, Result, Ok, Err, if◌then◌else◌}
use Rattle.std.specs.List.{All}
use Rattle.pl_base.specs.Answers.{◌>>=◌, unless}
use Rattle.pl_base.specs.Files.{Files}
use Rattle.pl_base.specs.Names.{is_valid_name}
use Rattle.pl_rewrite.specs.Format.{Causes, format}
use Rattle.pl_elf.specs.declared.range.Range.{Range}
use Rattle.pl_form.specs.declared.file.Entry.{Entry}
use Rattle.pl_form.specs.declared.file.Entry.TheVariants as entries
use Rattle.pl_rewrite.specs.Taken.{object_of}
use Rattle.pl_rewrite.specs.TakenFile.{Taken}
use Rattle.pl_object.specs.declared.object.Object.{Object}
use Rattle.pl_object.specs.declared.refusal.Refusal.{Refusal}
use Rattle.pl_object.specs.declared.refusal.Refusal.TheVariants as refusals
use Rattle.pl_scope.specs.Members.{names}
use Rattle.pl_scope.specs.Walk.{Walked}
use Rattle.pl_scope.specs.declared.fault.WalkFault.{WalkFault}
use Rattle.pl_scope.specs.declared.fault.WalkFault.TheVariants as walks
use Rattle.law_sound.specs.Rule as sound
use Rattle.law_sound.specs.Rule.{is_verified, original_at, walk_in}
use Rattle.pl_batch.specs.Folder.{named}
use Rattle.pl_change.specs.Names.{file_of}
use Rattle.pl_change.specs.declared.cause.Cause.{Cause}
use Rattle.pl_change.specs.declared.cause.Cause.TheVariants.{BadName, BadMark, FileTooLarge, NeededIsProgram, NotThere, Refused, TooMany}
use Rattle.pl_change.specs.declared.fault.BatchFault.{BatchFault}
use Rattle.pl_change.specs.declared.fault.BatchFault.TheVariants as faults

-- ---- the walk

-- no file is refused for want of memory
abbrev pub of_refusal : List ℕ → Refusal → Cause
of_refusal n (refusals.Clause number argument) = Refused n number argument
of_refusal n refusals.NoMemory = BadMark n

-- nor is a walk
abbrev pub of_walk : WalkFault → Cause
of_walk (walks.NeededIsProgram n) = NeededIsProgram n
of_walk (walks.TooMany n) = TooMany n
of_walk (walks.NotThere n) = NotThere n
of_walk walks.NoMemory = BadName

-- why a name of a walk has no object, and what refuses a walk
abbrev pub causes : Causes Cause
causes = record { absent = NotThere; large = FileTooLarge; bad_mark = BadMark; refused = of_refusal; walk = of_walk }

-- the names of a walk with their objects, or the first cause
abbrev pub walked : Files → List ℕ → Result Walked Cause
walked files n = walk_in (format causes) (named files) n

-- ---- the whole

-- the original of a file that is the prelinked file of its walk's originals, at the versions, slots and stamps that their files bear. Any other file differs
abbrev pub original_if_verified : sound.Files → List ℕ → Option (List ℕ)
original_if_verified files n = if is_verified (format causes) files n then Some (original_at (format causes) (files n)) else None

-- the same, or the first cause
unfoldable pub verified : Files → List ℕ → Result (Option (List ℕ)) Cause
verified files n = unless (not (is_valid_name n)) BadName (walked files n >>= λ ws. Ok (original_if_verified (named files) n))

-- for a name that is not valid the folder is not asked, and this is the answer
abbrev pub RefusesName : {X F : Type 0} → List ℕ → Result X BatchFault → F → F → Type 0
RefusesName name result old new = is_valid_name name ≡ false → (result ≡ Err (faults.Cause BadName)) × (new ≡ old)

-- ---- as the code has it

-- the file of a name of a walk. A name that is not valid has none
unfoldable pub wanted_file : Files → List ℕ → Result (List ℕ) Cause
wanted_file files n = unless (not (is_valid_name n)) (NotThere n) (file_of files n)

-- the object of a file's original, or why it has none
abbrev pub object_by : List ℕ → Entry → Result Object Cause
object_by n (entries.There file) = Ok (object_of file)
object_by n entries.BadMark = Err (BadMark n)
object_by n (entries.Refused number argument) = Err (Refused n number argument)

-- the names of a walk
abbrev pub walked_names : Files → List ℕ → Result (List (List ℕ)) Cause
walked_names files n = walked files n >>= λ ws. Ok (names ws)

-- these are the folder's files of their names
abbrev pub AreIn : Files → List Taken → Type 0
AreIn files ts = All (λ t. named files t.name ≡ Some t.bytes) ts

-- no address is in it: whether an original has a form there does not matter here
abbrev pub nowhere : Range
nowhere = record { start = 0; end = 0 }
