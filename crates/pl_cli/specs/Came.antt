-- What a command came to: what it gives to be written, or why it stopped, and what it makes of the folder and of the input.
use Rattle.std.specs.Prelude.{◌≡◌, ℕ, true, false, List, Option, Some, None, is_some, Result, Ok, Err, IfOk, ⊤, Vec, count_by, option_map, [], ◌∷◌}
use Rattle.std.specs.declared.alloc.Global.{Global}
use Rattle.pl_base.specs.Files.{Files}
use Rattle.pl_base.specs.Names.{is_valid_name}
use Rattle.pl_io.specs.Seen.{Input}
use Rattle.pl_folder.specs.Calls.{Calls}
use Rattle.pl_folder.specs.Effects.{Asks, Effect}
use Rattle.pl_folder.specs.Seen.{Seen, is_broken}
use Rattle.pl_loader.specs.Loading as loading
use Rattle.pl_loader.specs.Started.{Starts, started}
use Rattle.pl_loader.specs.declared.started.Started.{Started}
use Rattle.pl_place.specs.Policy.{Answering, Choice, Follows}
use Rattle.pl_script.specs.declared.TheConstants.{SCRIPT}
use Rattle.pl_script.specs.declared.script.Script.{Script}
use Rattle.pl_journal.specs.Parts.{Looking}
use Rattle.pl_change.specs.Commands.{Counts}
use Rattle.pl_change.specs.Restored.{restored}
use Rattle.pl_batch.specs.declared.prelinking.Prelinking.{Prelinking}
use Rattle.pl_batch.specs.declared.run.Run.{Run}
use Rattle.pl_batch.specs.declared.run.Run.TheVariants as runs
use Rattle.pl_texts.specs.declared.cause.Cause.{Cause}
use Rattle.pl_texts.specs.declared.cause.Cause.TheVariants.{BadName}
use Rattle.pl_cli.specs.declared.command.Command.{Command}
use Rattle.pl_cli.specs.declared.command.Command.TheVariants.{Load, All, Preview, UndoAll, Undo, Verify, Store, Remove, Fix, Unfix, Print, Order, Demo, Weave}
use Rattle.pl_texts.specs.declared.content.Content.{Content}
use Rattle.pl_texts.specs.declared.detail.Detail.{Detail}
use Rattle.pl_words.specs.declared.status.Status.{Status}
use Rattle.pl_texts.specs.declared.stop.Stop.{Stop}
use Rattle.pl_texts.specs.declared.stop.Stop.TheVariants as stops
use Rattle.pl_cli.specs.Answer.{Answer, IsTold, answer, done, refuses, fixed_line}
use Rattle.pl_texts.specs.DoneText.{removed_text, stored_text, fixed_text, unfixed_text}
use Rattle.pl_cli.specs.Demo.{demo_text}
use Rattle.pl_texts.specs.Finds.{Finds}
use Rattle.pl_texts.specs.Looks.{takes}
use Rattle.pl_cli.specs.Load.{loaded_files, loaded_object, loading_file, start_by}
use Rattle.pl_texts.specs.Order.{object_in}
use Rattle.pl_cli.specs.Reports.{previewed}
use Rattle.pl_cli.specs.Outside.{Consumes, may_end, most_read}
use Rattle.pl_texts.specs.Endings.{ending_of, is_read_fault}
use Rattle.pl_texts.specs.Stops.{Means, StopsAlone, status_of}
use Rattle.pl_cli.specs.Verified.{verifies}
use Rattle.pl_cli.specs.Weave.{script_in, weaves}
use Rattle.pl_cli.specs.Words.{bytes_of, reads_input}
use Rattle.pl_cli.specs.Writes.{AreBytes, WritesFolder, Written, content, fixes, loosens, most_bytes, prelinks, removes, stores, undoes}
use Rattle.pl_words.specs.declared.command.Policy.{Policy}

-- ---- what a command makes of the folder, by the status. These are the files before it, and the input's bytes where it tells them

abbrev pub Makes : Option Command → Files → Option (List ℕ) → Status → Effect
Makes None files input status = Asks 0
Makes (Some (Load name busy policy)) files input status = Asks (takes (loaded_object policy files name) name)
Makes (Some (All asked detail)) files input status = WritesFolder (λ bytes. prelinks asked) input status
Makes (Some (Preview asked detail)) files input status = Looking
Makes (Some UndoAll) files input status = WritesFolder (λ bytes. undoes runs.UndoAll) input status
Makes (Some (Undo names)) files input status = WritesFolder (λ bytes. undoes (runs.Undo names)) input status
Makes (Some (Store name kind)) files input status = WritesFolder (stores name kind) input status
Makes (Some (Remove name)) files input status = WritesFolder (λ bytes. removes name) input status
Makes (Some (Fix name policy)) files input status = WritesFolder (λ bytes. fixes policy name) input status
Makes (Some (Unfix name)) files input status = WritesFolder (λ bytes. loosens name) input status
Makes (Some (Verify name)) files input status = Looking
Makes (Some Print) files input status = Asks 1
Makes (Some Weave) files input status = Looking
Makes (Some (Order name detail)) files input status = Asks (takes (object_in files) name)
Makes (Some (Demo number)) files input status = Asks 0

-- ---- what is found in the folder

-- the file of a name of the walk of a name that is loaded
abbrev pub HasGiven : Policy → List ℕ → List ℕ → Result (List ℕ) Stop → Seen → Seen → Type 0
HasGiven policy name n result old new = Finds (is_valid_name n) (Asks (count_by is_valid_name (n ∷ []))) (loading_file policy old.files name n) (λ file. file) result old new

-- the files of a load
abbrev pub HasLoaded : {F : Type 0} → Policy → List ℕ → Result (loading.Load F) Stop → Seen → Seen → Type 0
HasLoaded policy name result old new = Finds (is_valid_name name) (Asks (takes (loaded_object policy old.files name) name)) (loaded_files policy old.files name) (λ l. l.walk.files) result old new

-- the start is that of the load's files, whichever function its policy follows
abbrev pub IsStarted : {F : Type 0} → Answering → loading.Load F → Started → Type 0
IsStarted post l s = (choose : Choice) → Follows post choose → Starts s (started choose l.busy l.walk.files)

-- the load has no start for this cause, whichever function its policy follows, or memory lacked
abbrev pub IsNotStarted : {F : Type 0} → Answering → loading.Load F → Stop → Type 0
IsNotStarted post l stop = (choose : Choice) → Follows post choose → StopsAlone (start_by choose l) stop

-- the text of what a run over all files would do. Its calls only read
abbrev pub HasPreviewed : Prelinking → Detail → Result (Vec ℕ Global) Stop → Seen → Seen → Type 0
HasPreviewed asked detail result old new = Finds true Looking (previewed detail asked old.files) (λ text. text.items) result old new

-- what comparing a file comes to. Its calls only read
abbrev pub HasVerified : List ℕ → Result (Option (Vec ℕ Global)) Stop → Seen → Seen → Type 0
HasVerified name result old new = Finds (is_valid_name name) Looking (verifies name old.files) (option_map (λ v. v.items)) result old new

-- ---- what writing commands come to

-- what is read of an input
pub record HasContent (kind : Content) (result : Result (List ℕ) Stop) (left rest : Input) : Type 0 where
  pub bytes : List ℕ
  pub told : AreBytes left.left bytes
  pub means : Means ⊤ (content kind bytes) (λ file. file) result
  pub folder : is_broken (ending_of (status_of result)) ≡ false
  pub input : Consumes true (most_bytes kind) (is_read_fault (status_of result)) left rest

-- a command is done only for a valid name, and for any other one has no cause but BadName
abbrev pub Named : {X : Type 0} → List ℕ → Result X Stop → Type 0
Named name (Ok x) = is_valid_name name ≡ true
Named name (Err (stops.Cause cause)) = is_valid_name name ≡ false → cause ≡ BadName
Named name (Err stops.Failed) = ⊤
Named name (Err stops.InputFailed) = is_valid_name name ≡ true
Named name (Err stops.NoMemory) = ⊤

-- what is prelinked, and the text of what became of the files that the folder stood for
pub record HasPrelinked (asked : Prelinking) (detail : Detail) (result : Result (Vec ℕ Global) Stop) (old new : Seen) : Type 0 where
  pub reads : is_read_fault (status_of result) ≡ false
  pub calls : Calls (ending_of (status_of result)) (Written (prelinks asked) result) old new
  pub text : IfOk result (λ text. old.tells ≡ true → previewed detail asked (restored old.files) ≡ Ok text.items)

-- what is undone, and how many files
pub record HasUndone (run : Run) (result : Result ℕ Stop) (old new : Seen) : Type 0 where
  pub reads : is_read_fault (status_of result) ≡ false
  pub calls : Calls (ending_of (status_of result)) (Written (undoes run) result) old new
  pub count : IfOk result (λ count. Counts (undoes run) count old)

pub record HasRemoved (name : List ℕ) (result : Result (Vec ℕ Global) Stop) (old new : Seen) : Type 0 where
  pub named : Named name result
  pub reads : is_read_fault (status_of result) ≡ false
  pub calls : Calls (ending_of (status_of result)) (Written (removes name) result) old new
  pub text : IfOk result (λ text. text.items ≡ removed_text name)

-- what is fixed, and the address of the program of the files that the folder stood for
pub record HasFixed (name : List ℕ) (policy : Policy) (result : Result ℕ Stop) (old new : Seen) : Type 0 where
  pub named : Named name result
  pub reads : is_read_fault (status_of result) ≡ false
  pub calls : Calls (ending_of (status_of result)) (Written (fixes policy name) result) old new
  pub address : IfOk result (λ at. old.tells ≡ true → fixed_line policy name (restored old.files) ≡ Ok (fixed_text name at))

pub record HasUnfixed (name : List ℕ) (result : Result (Vec ℕ Global) Stop) (old new : Seen) : Type 0 where
  pub named : Named name result
  pub reads : is_read_fault (status_of result) ≡ false
  pub calls : Calls (ending_of (status_of result)) (Written (loosens name) result) old new
  pub text : IfOk result (λ text. text.items ≡ unfixed_text name)

-- the text of a weave. Its calls of the folder only read
pub record HasWoven (result : Result (Vec ℕ Global) Stop) (old new : Seen) (left rest : Input) : Type 0 where
  pub bytes : List ℕ
  pub told : AreBytes left.left bytes
  pub means : Means (old.tells ≡ true) (weaves bytes old.files) (λ text. text.items) result
  pub calls : Calls (ending_of (status_of result)) Looking old new
  pub input : Consumes true SCRIPT (is_read_fault (status_of result)) left rest

-- its script, for which the folder is not asked
pub record HasScript (result : Result Script Stop) (left rest : Input) : Type 0 where
  pub bytes : List ℕ
  pub told : AreBytes left.left bytes
  pub means : Means ⊤ (script_in bytes) (λ s. s) result
  pub folder : is_broken (ending_of (status_of result)) ≡ false
  pub input : Consumes true SCRIPT (is_read_fault (status_of result)) left rest

pub record HasStored (name : List ℕ) (kind : Content) (result : Result (Vec ℕ Global) Stop) (old new : Seen) (left rest : Input) : Type 0 where
  pub bytes : List ℕ
  pub told : AreBytes left.left bytes
  pub invalid : is_valid_name name ≡ false → bytes ≡ bytes_of left.left
  pub named : Named name result
  pub calls : Calls (ending_of (status_of result)) (Written (stores name kind bytes) result) old new
  pub text : IfOk result (λ text. text.items ≡ stored_text kind name)
  pub input : Consumes (is_valid_name name) (most_bytes kind) (is_read_fault (status_of result)) left rest

-- ---- what asks nothing of the outside

-- the text of a set of files; there is none only for want of memory
abbrev pub HasDemo : ℕ → Result (Vec ℕ Global) Stop → Type 0
HasDemo number (Ok text) = text.items ≡ demo_text number
HasDemo number (Err (stops.Cause cause)) = ⊥
HasDemo number (Err stops.Failed) = ⊥
HasDemo number (Err stops.InputFailed) = ⊥
HasDemo number (Err stops.NoMemory) = ⊤

-- ---- the whole

-- what a text is made from, and a cause, are the answer's
abbrev pub Gives : {Y : Type 0} → Type 0 → Answer → (Y → List ℕ) → Result Y Stop → Type 0
Gives told meant text (Ok y) = told → meant ≡ done (text y)
Gives told meant text (Err (stops.Cause cause)) = told → meant ≡ refuses cause
Gives told meant text (Err stops.Failed) = ⊤
Gives told meant text (Err stops.InputFailed) = ⊤
Gives told meant text (Err stops.NoMemory) = ⊤

pub record Came {Y : Type 0} (asked : Option Command) (text : Y → List ℕ) (result : Result Y Stop) (old new : Seen) (left rest : Input) : Type 0 where
  pub gives : Gives (IsTold asked old.tells (is_some left.left)) (answer asked old.files (bytes_of left.left)) text result
  pub ends : may_end asked (status_of result) ≡ true
  pub calls : Calls (ending_of (status_of result)) (Makes asked old.files left.left (status_of result)) old new
  pub input : Consumes (reads_input asked) (most_read asked) (is_read_fault (status_of result)) left rest

-- a text as it is
abbrev pub as_is : Vec ℕ Global → List ℕ
as_is text = text.items
