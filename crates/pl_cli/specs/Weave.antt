-- The text of loads that open their files during runs, as a script says, in a copy of a folder; or the first cause why there is none.
use Rattle.std.specs.Prelude.{◌≡◌, ℕ, ◌+◌, ◌==◌, false, nat_lt, List, [], ◌∷◌, ◌++◌, length, Option, Some, None, String, Vec, Result, Ok, Err, if◌then◌else◌}
use Rattle.std.specs.declared.alloc.Global.{Global}
use Rattle.std.specs.FinMap.{get}
use Rattle.pl_base.specs.Answers.{◌>>=◌, because, unless}
use Rattle.pl_base.specs.Each.{each}
use Rattle.pl_base.specs.Files.{Files}
use Rattle.pl_change.specs.Copied.{IsCopy, copied}
use Rattle.pl_batch.specs.declared.prelinking.Prelinking.{Prelinking}
use Rattle.pl_batch.specs.declared.run.Run.{Run}
use Rattle.pl_batch.specs.declared.run.Run.TheVariants as runs
use Rattle.pl_loader.specs.declared.fault.LoadFault.TheVariants.{NotThere}
use Rattle.pl_place.specs.Policy.{Answering, Choice, Follows}
use Rattle.pl_place.specs.Policies.{lowest}
use Rattle.pl_script.specs.Script.{IsScript, script}
use Rattle.pl_script.specs.declared.TheConstants.{SCRIPT}
use Rattle.pl_script.specs.declared.fault.ScriptFault.{ScriptFault}
use Rattle.pl_script.specs.declared.fault.ScriptFault.TheVariants as script_faults
use Rattle.pl_script.specs.declared.line.RunLine.{RunLine}
use Rattle.pl_script.specs.declared.line.RunLine.TheVariants.{Prelink, UndoAll, Undo, Install}
use Rattle.pl_script.specs.declared.script.Script.{Script}
use Rattle.pl_weave.specs.Opening.{Opened, ended, wanted}
use Rattle.pl_weave.specs.Running.{AreRuns, HavePolicy}
use Rattle.pl_weave.specs.Runs.{progress}
use Rattle.pl_weave.specs.Weaving.{Weaving, woven}
use Rattle.pl_weave.specs.declared.progress.Progress.{Progress}
use Rattle.pl_weave.specs.declared.progress.Progress.TheVariants.{Waits, Refused, Does}
use Rattle.pl_words.specs.declared.values.TheConstants.{REGION}
use Rattle.pl_texts.specs.WeaveText.{loader_line, wants_line, start_text, waits_line, refused_line, done_line, renames_line, end_line}
use Rattle.pl_texts.specs.Stops.{of_batch}
use Rattle.pl_texts.specs.declared.cause.Cause.{Cause}
use Rattle.pl_texts.specs.declared.cause.Cause.TheVariants as causes

-- ---- the script

-- no script means a want of memory
abbrev pub of_script : ScriptFault → Cause
of_script (script_faults.Wrong number) = causes.Script number
of_script script_faults.NoMemory = causes.Script 0

-- the script that an input is
unfoldable pub script_in : List ℕ → Result Script Cause
script_in input = unless (nat_lt SCRIPT (length input)) causes.InputTooLarge (because of_script (script input))

-- ---- its runs

-- a run that prelinks all files, with slots of the default region and none shared
abbrev pub prelinking_at : ℕ → Prelinking
prelinking_at moment = record { region = REGION; share = false; moment = moment }

abbrev pub start_file : List ℕ → Option (List ℕ) → Result (List ℕ) Cause
start_file name None = Err (causes.Load (NotThere name))
start_file name (Some bytes) = Ok bytes

-- what is installed is the file that a name has at the start
abbrev pub run_of : Files → RunLine → Result Run Cause
run_of files (Prelink now) = Ok (runs.All (prelinking_at now))
run_of files UndoAll = Ok runs.UndoAll
run_of files (Undo names) = Ok (runs.Undo names)
run_of files (Install name from) = start_file from (get files from) >>= λ bytes. Ok (runs.Install name bytes)

abbrev pub runs_of : Files → List RunLine → Result (List Run) Cause
runs_of files asked = each (run_of files) asked

-- ---- the text

abbrev pub state_by : {F : Type 0} → Choice → Opened F → Option (List ℕ) → List ℕ
state_by choose o (Some name) = wants_line name
state_by choose o None = start_text (because causes.Load (ended choose o))

-- the file that a loader wants; or, where it has finished, the text of its load
abbrev pub loader_text : {F : Type 0} → Choice → Opened F → List ℕ
loader_text choose o = state_by choose o (wanted o)

-- these loaders, the first of them being of that number
abbrev pub loaders_text : {F : Type 0} → Choice → ℕ → List (Opened F) → List ℕ
loaders_text choose number [] = []
loaders_text choose number (o ∷ os) = loader_line number ++ (loader_text choose o ++ loaders_text choose (number + 1) os)

-- how far a run came
abbrev pub run_line : ℕ → Progress → List ℕ
run_line number Waits = waits_line number
run_line number (Refused cause) = refused_line number (of_batch cause)
run_line number (Does done rows) = if done == rows then done_line number rows else renames_line number done rows

abbrev pub runs_text : ℕ → List Progress → List ℕ
runs_text number [] = []
runs_text number (p ∷ ps) = run_line number p ++ runs_text (number + 1) ps

-- what a weave came to
abbrev pub woven_text : {F : Type 0} → Choice → List (Opened F) → List Progress → List ℕ
woven_text choose loaders told = loaders_text choose 0 loaders ++ (runs_text 0 told ++ end_line)

-- the text is that of a weave's loaders and of how its runs went, whichever function the policy of the loaders follows
abbrev pub IsWovenText : {F : Type 0} → (F → Answering) → List (Opened F) → List Progress → Vec ℕ Global → Type 0
IsWovenText {F = F} post loaders told text = (p : F) (choose : Choice) → HavePolicy p loaders → Follows (post p) choose → text.items ≡ woven_text choose loaders told

-- ---- the whole

abbrev pub weave_text : Choice → Weaving → List ℕ
weave_text choose w = woven_text choose w.loaders (progress w.runs)

-- the text of the weave of a script and its runs, by a policy that is a function
abbrev pub text_by : Choice → Script → List Run → Files → List ℕ
text_by choose s asked files = weave_text choose (woven choose files s.loads asked s.events)

abbrev pub weaves_by : Script → Files → Result (List ℕ) Cause
weaves_by s files = runs_of files s.runs >>= λ asked. Ok (text_by lowest s asked files)

-- what a weave asks for: a script, its runs and a copy of a folder
pub record CanWeave (s : Script) (asked : List Run) (files : List (String Global × Vec ℕ Global)) : Type 0 where
  pub script : IsScript s
  pub runs : AreRuns asked
  pub copy : IsCopy files

-- `--weave`: the script comes first, then what the folder has, then the files that are installed; libraries go to the lowest places
unfoldable pub weaves : List ℕ → Files → Result (List ℕ) Cause
weaves input files = script_in input >>= λ s. because of_batch (copied files) >>= λ copy. weaves_by s copy
