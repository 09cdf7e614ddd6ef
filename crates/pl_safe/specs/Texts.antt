-- The text of a weave whose loaders end with what the files that they saw give, and such texts by two ways to start from these files.
use Rattle.std.specs.Prelude.{◌≡◌, ℕ, ◌+◌, List, [], ◌∷◌, ◌++◌, Option, Some, None, Result, Ok}
use Rattle.std.specs.FinMap.{get}
use Rattle.std.specs.Option.{ok_or}
use Rattle.pl_base.specs.Answers.{◌>>=◌, because}
use Rattle.pl_base.specs.Files.{Files}
use Rattle.pl_change.specs.Copied.{copied}
use Rattle.pl_cli.specs.Weave.{runs_of, runs_text, script_in, weaves}
use Rattle.pl_cli.specs.WeaveText.{end_line, loader_line, start_text, wants_line}
use Rattle.pl_cli.specs.Stops.{of_batch}
use Rattle.pl_cli.specs.Cause.{Cause}
use Rattle.pl_cli.specs.Cause.TheVariants as causes
use Rattle.pl_conflict.specs.Format.{is_fast}
use Rattle.law_folder.specs.Sound.{KeepsTheRule}
use Rattle.law_folder.specs.Steps.{IsPastAll}
use Rattle.law_loads.specs.Started.{Start, load}
use Rattle.law_loads.specs.LoadFault.TheVariants.{NotThere}
use Rattle.law_loads.specs.LoadingFolder.{loading_folder}
use Rattle.law_loads.specs.Weaves.{file_seen}
use Rattle.pl_rewrite.specs.Skipped.{skip_causes}
use Rattle.law_loads.specs.Paths.{ordinary_load}
use Rattle.pl_place.specs.Policies.{lowest}
use Rattle.law_loads.specs.Given.{given_from}
use Rattle.law_loads.specs.Opening.{Opened, wanted}
use Rattle.law_loads.specs.Runs.{progress}
use Rattle.law_loads.specs.Weaving.{Weaving, woven}
use Rattle.law_loads.specs.Seen.{Seen}

-- ---- what a program of a name starts from, by the files that a loader saw

-- the file that was seen under a name, or that it is not there
abbrev pub seen_file : List Seen → List ℕ → Result (List ℕ) Cause
seen_file seen n = ok_or (file_seen seen n) (causes.Load (NotThere n))

abbrev pub Starting : Type 0
Starting = List ℕ → List Seen → Result Start Cause

-- by the load of these files, as `--load` loads them, on either path
abbrev pub loaded_from : Starting
loaded_from name seen = load lowest None causes.Load (given_from lowest causes.Load (seen_file seen) name) name

-- by plain linking of their originals, and of a position-independent program of the one that it becomes. The path is told to be the fast one where these files allow it at these places
abbrev pub linked_from : Starting
linked_from name seen = ordinary_load (is_fast skip_causes (loading_folder lowest (file_seen seen) name) name) lowest None causes.Load (given_from lowest causes.Load (seen_file seen) name) name

-- ---- the text

abbrev pub text_from : Starting → List ℕ → List Seen → Option (List ℕ) → List ℕ
text_from starts name seen (Some next) = wants_line next
text_from starts name seen None = start_text (starts name seen)

-- of these loaders, the first of them being of that number: the name that each one wants, or where it has finished what the files that it saw start from
abbrev pub texts_from : Starting → ℕ → List (List ℕ) → List (Opened (Unit {0})) → List ℕ
texts_from starts number [] os = []
texts_from starts number (name ∷ names) [] = []
texts_from starts number (name ∷ names) (o ∷ os) = loader_line number ++ (text_from starts name o.seen (wanted o) ++ texts_from starts (number + 1) names os)

abbrev pub weave_from : Starting → List (List ℕ) → Weaving → List ℕ
weave_from starts names w = texts_from starts 0 names w.loaders ++ (runs_text 0 (progress w.runs) ++ end_line)

-- `--weave` with such ends; its causes are the same
abbrev pub weaves_from : Starting → List ℕ → Files → Result (List ℕ) Cause
weaves_from starts input files = script_in input >>= λ s. because of_batch (copied files) >>= λ copy. runs_of copy s.runs >>= λ asked. Ok (weave_from starts s.loads (woven lowest copy s.loads asked s.events))

-- ---- laws

-- over every folder and input each loader that has finished prints the load of the files that it saw, or why these do not load
abbrev pub WeavesPrintLoads : Type 0
WeavesPrintLoads = (input : List ℕ) (files : Files) → weaves input files ≡ weaves_from loaded_from input files

-- where the folder keeps the rule of prelinked files, and no stamp is past the last one of its cache, it prints what plain linking of the originals of these files gives
abbrev pub WeavesPrintOrdinary : Type 0
WeavesPrintOrdinary = (input : List ℕ) (files : Files) → KeepsTheRule (get files) → IsPastAll (get files) → weaves input files ≡ weaves_from linked_from input files
