-- What a program of a folder's files starts from, or the first cause why it does not.
use Rattle.std.specs.Prelude.{◌≡◌, ℕ, Bool, false, not, List, Option, None, Result}
use Rattle.std.specs.Borrow.{Bor}
use Rattle.pl_base.specs.Answers.{because, unless}
use Rattle.pl_base.specs.Files.{Files}
use Rattle.pl_base.specs.Names.{is_valid_name}
use Rattle.pl_elf.specs.declared.range.Range.{Range}
use Rattle.pl_place.specs.Policies.{highest, lowest, seeded}
use Rattle.pl_place.specs.Policy.{Choice, Chooses, MayChoose}
use Rattle.pl_words.specs.declared.command.Policy.{Policy}
use Rattle.pl_words.specs.declared.command.Policy.TheVariants as policies
use Rattle.pl_scope.specs.Walking.{wants}
use Rattle.pl_loader.specs.Faults as memory
use Rattle.pl_loader.specs.Loading as loading
use Rattle.pl_loader.specs.Started.{Start, load, started}
use Rattle.pl_loader.specs.Walk as walk
use Rattle.pl_loader.specs.declared.object_file.ObjectFile.{ObjectFile}
use Rattle.pl_texts.specs.Files.{file_in}
use Rattle.pl_texts.specs.Looks.{ObjectOf}
use Rattle.pl_texts.specs.declared.cause.Cause.{Cause}
use Rattle.pl_texts.specs.declared.cause.Cause.TheVariants as causes
use Rattle.pl_loader.specs.Given.{given_from, given_of}

-- a policy as a function of holes, a span and an alignment
abbrev pub choice : Policy → Choice
choice policies.Lowest = lowest
choice policies.Highest = highest
choice (policies.Seeded number) = seeded number

-- ---- the files that are loaded, as a loader of a weave loads them: of a position-independent program the one that it becomes where the policy places it, whatever is busy

abbrev pub given_file : Policy → List ℕ → List ℕ → List ℕ → Result (List ℕ) Cause
given_file policy name n bytes = because causes.Load (given_of (choice policy) name n bytes)

unfoldable pub loading_file : Policy → Files → List ℕ → List ℕ → Result (List ℕ) Cause
loading_file policy files name n = given_from (choice policy) causes.Load (file_in files) name n

-- ---- the load

-- the object of a name of the walk of the name that is loaded, which is to be a program's
abbrev pub loaded_object : Policy → Files → List ℕ → ObjectOf
loaded_object policy files name = walk.object_of causes.Load (loading_file policy files name) name

-- the files of the walk of a name, or the first cause why there is none
unfoldable pub loaded_files : Policy → Files → List ℕ → Result (List ObjectFile) Cause
loaded_files policy files name = unless (not (is_valid_name name)) causes.BadName (walk.files causes.Load (loading_file policy files name) name)

unfoldable pub load_result : Policy → Option Range → Files → List ℕ → Result Start Cause
load_result policy busy files name = unless (not (is_valid_name name)) causes.BadName (load (choice policy) busy causes.Load (loading_file policy files name) name)

-- what the files of a load start from by a choice, or the first cause why they do not
abbrev pub start_by : {F : Type 0} → Choice → loading.Load F → Result Start Cause
start_by choose l = because causes.Load (started choose l.busy l.walk.files)

-- a load whose files were all given, by a policy that may be asked for each place, and answers as it may
pub record MayStart {F : Type 0} (pre : F → Bor (List Range) → ℕ → ℕ → Type 0) (post : F → Bor (List Range) → ℕ → ℕ → Option ℕ → Type 0) (l : loading.Load F) : Type 0 where
  pub may : MayChoose (pre l.policy)
  pub chooses : Chooses (post l.policy)
  pub given : wants l.walk.order ≡ None

-- whether a cause is a want of memory. No load, no order and no recipe means one
abbrev pub is_memory : Cause → Bool
is_memory (causes.Load fault) = memory.is_memory fault
is_memory causes.BadName = false
is_memory causes.BadJournal = false
is_memory (causes.FileTooLarge name) = false
is_memory causes.InputTooLarge = false
is_memory (causes.Recipe number kind) = false
is_memory (causes.Script line) = false
is_memory causes.TooManyFiles = false
is_memory causes.BadCache = false
is_memory causes.FolderTooLarge = false
is_memory (causes.NoSlot name span hole) = false
is_memory (causes.StampsSpent stamp) = false
is_memory (causes.NotPie name) = false
is_memory (causes.NotFixed name) = false
