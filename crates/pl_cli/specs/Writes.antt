-- What a writing command means of the files that its folder stands for and of the bytes of its input, and what it makes of the folder.
use Rattle.std.specs.Prelude.{◌≡◌, ◌⊎◌, ℕ, true, List, length, nat_lt, Option, is_some, Result, Ok, Err}
use Rattle.pl_base.specs.Answers.{◌>>=◌, unless, because}
use Rattle.pl_base.specs.Files.{Files}
use Rattle.pl_folder.specs.Disk.{Disk}
use Rattle.pl_folder.specs.Effects.{Effect}
use Rattle.pl_folder.specs.Seen.{Ending}
use Rattle.pl_folder.specs.declared.TheConstants.{STORED}
use Rattle.pl_build.specs.Build.{build}
use Rattle.pl_build.specs.declared.checks.Fault.{Fault}
use Rattle.pl_batch.specs.Changes.{changes_of, run_meant}
use Rattle.pl_change.specs.Changes.{removal_meant}
use Rattle.pl_change.specs.Commands.{Commands, CommandsDisk, CommandsFiles, Failed, Lacked, Made, Meaning, ready_for}
use Rattle.pl_change.specs.Commands as outcomes
use Rattle.pl_change.specs.Replace.{fixing_meant, loosening_meant}
use Rattle.pl_batch.specs.declared.prelinking.Prelinking.{Prelinking}
use Rattle.pl_batch.specs.declared.run.Run.{Run}
use Rattle.pl_batch.specs.declared.run.Run.TheVariants as runs
use Rattle.pl_texts.specs.declared.cause.Cause.{Cause}
use Rattle.pl_texts.specs.declared.cause.Cause.TheVariants as causes
use Rattle.pl_texts.specs.declared.content.Content.{Content}
use Rattle.pl_texts.specs.declared.content.Content.TheVariants.{File, Recipe}
use Rattle.pl_words.specs.declared.status.Status.{Status}
use Rattle.pl_words.specs.declared.status.Status.TheVariants as statuses
use Rattle.pl_texts.specs.declared.stop.Stop.{Stop}
use Rattle.pl_texts.specs.declared.stop.Stop.TheVariants as stops
use Rattle.pl_cli.specs.declared.store.TheConstants.{RECIPE}
use Rattle.pl_cli.specs.Load.{choice}
use Rattle.pl_texts.specs.Stops.{of_batch}
use Rattle.pl_cli.specs.Words.{bytes_of}
use Rattle.pl_words.specs.declared.command.Policy.{Policy}

-- ---- meanings

-- `-u`: the journal is in its grammar, and then the rows of what is undone
abbrev pub undoes : Run → Meaning Cause
undoes run files = because of_batch (run_meant run files)

-- `-a`: the journal likewise, and then the rows of the cache and of what is prelinked
abbrev pub prelinks : Prelinking → Meaning Cause
prelinks asked files = because of_batch (run_meant (runs.All asked) files)

-- `--remove`
abbrev pub removes : List ℕ → Meaning Cause
removes name files = because of_batch (removal_meant name files)

-- `--fix`
abbrev pub fixes : Policy → List ℕ → Meaning Cause
fixes policy name files = because of_batch (fixing_meant (choice policy) name files)

-- `--unfix`
abbrev pub loosens : List ℕ → Meaning Cause
loosens name files = because of_batch (loosening_meant name files)

-- the most bytes that an input may have
abbrev pub most_bytes : Content → ℕ
most_bytes File = STORED
most_bytes Recipe = RECIPE

-- a fault of a recipe as a cause
abbrev pub recipe_cause : Fault → Cause
recipe_cause fault = causes.Recipe fault.line fault.kind

-- the file that an input is, or the one that its recipe describes
abbrev pub file_by : Content → List ℕ → Result (List ℕ) Cause
file_by File input = Ok input
file_by Recipe input = because recipe_cause (build input)

-- no input is longer than it may be, and no file than a folder stores
unfoldable pub content : Content → List ℕ → Result (List ℕ) Cause
content kind input =
    unless (nat_lt (most_bytes kind) (length input)) causes.InputTooLarge (file_by kind input >>= λ file. unless (nat_lt STORED (length file)) causes.InputTooLarge (Ok file))

-- `--install`, `--make`: the name and the journal come first, then the input, and then what the folder has
abbrev pub stores : List ℕ → Content → List ℕ → Meaning Cause
stores name kind input files = because of_batch (ready_for name files) >>= λ none. content kind input >>= λ file. because of_batch (changes_of files (runs.Install name file))

-- ---- what a writing command makes of the folder

-- nothing but its recovery
abbrev pub Recovers : Effect
Recovers = Commands {C = Unit {0}} (λ files. Err tt) (outcomes.Refused tt)

-- by what it came to
abbrev pub Written : {X : Type 0} → Meaning Cause → Result X Stop → Effect
Written meant (Ok x) = Commands meant Made
Written meant (Err (stops.Cause cause)) = Commands meant (outcomes.Refused cause)
Written meant (Err stops.Failed) = Commands meant Failed
Written meant (Err stops.InputFailed) = Recovers
Written meant (Err stops.NoMemory) = Commands meant Lacked

-- by the status of its run. Where the output failed all was done, or the command was refused
abbrev pub WritesFiles : Meaning Cause → Status → Ending → Files → Files → Type 0
WritesFiles meant statuses.Done e old new = CommandsFiles meant Made e old new
WritesFiles meant statuses.Differs e old new = ⊥
WritesFiles meant statuses.Usage e old new = ⊥
WritesFiles meant statuses.Refused e old new = (cause : Cause) × CommandsFiles meant (outcomes.Refused cause) e old new
WritesFiles meant statuses.ReadFault e old new = Recovers.files e old new
WritesFiles meant statuses.WriteFault e old new = CommandsFiles meant Made e old new ⊎ ((cause : Cause) × CommandsFiles meant (outcomes.Refused cause) e old new)
WritesFiles meant statuses.DiskFault e old new = CommandsFiles meant Failed e old new
WritesFiles meant statuses.NoMemory e old new = CommandsFiles meant Lacked e old new

abbrev pub WritesDisk : Meaning Cause → Status → Ending → Disk → Disk → Type 0
WritesDisk meant statuses.Done e old new = CommandsDisk meant Made e old new
WritesDisk meant statuses.Differs e old new = ⊥
WritesDisk meant statuses.Usage e old new = ⊥
WritesDisk meant statuses.Refused e old new = (cause : Cause) × CommandsDisk meant (outcomes.Refused cause) e old new
WritesDisk meant statuses.ReadFault e old new = Recovers.disk e old new
WritesDisk meant statuses.WriteFault e old new = CommandsDisk meant Made e old new ⊎ ((cause : Cause) × CommandsDisk meant (outcomes.Refused cause) e old new)
WritesDisk meant statuses.DiskFault e old new = CommandsDisk meant Failed e old new
WritesDisk meant statuses.NoMemory e old new = CommandsDisk meant Lacked e old new

-- these are the input's bytes, where it tells them
abbrev pub AreBytes : Option (List ℕ) → List ℕ → Type 0
AreBytes input bytes = is_some input ≡ true → bytes ≡ bytes_of input

-- of a meaning by the bytes of an input
abbrev pub WritesFolder : (List ℕ → Meaning Cause) → Option (List ℕ) → Status → Effect
WritesFolder meant input status = record {
  files = λ e old new. (bytes : List ℕ) × AreBytes input bytes × WritesFiles (meant bytes) status e old new;
  disk = λ e old new. (bytes : List ℕ) × AreBytes input bytes × WritesDisk (meant bytes) status e old new;
}
