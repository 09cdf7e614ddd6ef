-- A folder in memory in which runs go on, and the runs that it stands for.
use Rattle.std.specs.Prelude.{◌≡◌, ℕ, ◌≤◌, ◌<◌, ltb, true, false, List, [], ◌∷◌, ◌++◌, drop, length, map, Option, Some, Result, Ok, Err}
use Rattle.std.specs.Borrow.{Bor}
use Rattle.std.specs.FinMap.{get}
use Rattle.std.specs.List.{list_any}
use Rattle.pl_base.specs.Files.{Files}
use Rattle.pl_base.specs.Names.{is_valid_name}
use Rattle.pl_batch.specs.Changes.{IsRun}
use Rattle.pl_change.specs.declared.cause.Cause.{Cause}
use Rattle.pl_batch.specs.declared.run.Run.{Run}
use Rattle.pl_elf.specs.declared.range.Range.{Range}
use Rattle.pl_folder.specs.InMemory.{quiet_files}
use Rattle.pl_folder.specs.declared.TheConstants.{STORED}
use Rattle.pl_folder.specs.declared.quiet_folder.QuietFolder.{QuietFolder}
use Rattle.pl_journal.specs.Meaning.{Agree, HasNoOwn, Same, rows_for}
use Rattle.pl_journal.specs.Parts.{IsReady, committed}
use Rattle.pl_journal.specs.Rows.{done_from}
use Rattle.pl_journal.specs.declared.change.Change.{Change}
use Rattle.pl_journal.specs.declared.step.Step.{Step}
use Rattle.pl_place.specs.Policy.{Answering, Choice, Chooses, Follows, MayChoose}
use Rattle.pl_stage.specs.declared.held.Held.{Held}
use Rattle.pl_weave.specs.Opening.{Opened}
use Rattle.pl_weave.specs.Runs.{Runs, is_large, progress}
use Rattle.pl_weave.specs.Weaving.{Weaving}
use Rattle.pl_weave.specs.declared.progress.Progress.{Progress}
use Rattle.pl_weave.specs.declared.progress.Progress.TheVariants.{Refused, Does}
use Rattle.pl_weave.specs.declared.running.Running.{Running}
use Rattle.pl_weave.specs.declared.weaving.Woven.{Woven}

-- the files of a folder in memory that is held
abbrev pub files_in : Held QuietFolder → Files
files_in held = quiet_files held.folder

-- a folder gives each of these files
abbrev pub AreStored : Files → Type 0
AreStored files = (n bytes : List ℕ) → is_valid_name n ≡ true → get files n ≡ Some bytes → length bytes ≤ STORED

-- ---- a run under way

-- So many rows of a run are done and these are left: the held folder has the files that the runs stand for, and files of the journal's own beside them.
pub record IsUnderWay (steps : List Step) (done : ℕ) (left : List Change) (files held : Files) : Type 0 where
  pub before : Files
  pub edits : List Change
  pub ready : IsReady (get before) edits steps
  pub most : done ≤ length steps
  pub left_is : left ≡ drop done edits
  pub reads : Same (get held) (done_from 0 (rows_for edits) (λ j. ltb j done) (committed edits (get before)))
  pub agree : Agree (get held) (get files)
  pub no_own : HasNoOwn (get files)
  pub stored : AreStored files
  pub small : list_any is_large left ≡ false

-- rows are left
pub record Works (left : List Change) (files : Files) (m : Running) : Type 0 where
  pub under_way : IsUnderWay m.steps m.done left files (files_in m.held)
  pub some : m.done < length m.steps

-- no run is under way, and the held folder has no file but those that the runs stand for
pub record Idles (files : Files) (m : Running) : Type 0 where
  pub same : files_in m.held ≡ files
  pub no_own : HasNoOwn (get files)
  pub stored : AreStored files
  pub steps : m.steps ≡ []
  pub done : m.done ≡ 0

abbrev pub StandsBy : List Change → Files → Running → Type 0
StandsBy [] files m = Idles files m
StandsBy (row ∷ rows) files m = Works (row ∷ rows) files m

-- bytes that are installed are no more than a folder stores
abbrev pub AreRuns : List Run → Type 0
AreRuns [] = Unit {0}
AreRuns (run ∷ runs) = IsRun run × AreRuns runs

-- it stands for these runs
pub record Stands (m : Running) (r : Runs) : Type 0 where
  pub finished : m.finished ≡ r.finished
  pub waiting : m.waiting.now ≡ r.waiting
  pub done : m.done ≡ r.done
  pub folder : StandsBy r.left r.files m
  pub runs : AreRuns r.waiting

-- it stands for some
abbrev pub GoesOn : Running → Type 0
GoesOn m = (r : Runs) × Stands m r

-- it stands for files that are at rest
abbrev pub Rests : Running → Type 0
Rests m = (files : Files) × Idles files m × AreRuns m.waiting.now

-- ---- a run begins

-- by the rows that it means: it is refused or has none, and has finished at once; or it is under way
abbrev pub Begins : Result (List Change) Cause → Files → Running → Running → Type 0
Begins (Err cause) files old new = Idles files new × (new.finished ≡ old.finished ++ Refused cause ∷ [])
Begins (Ok []) files old new = Idles files new × (new.finished ≡ old.finished ++ Does 0 0 ∷ [])
Begins (Ok (row ∷ rows)) files old new = Works (row ∷ rows) files new × (new.finished ≡ old.finished) × (new.done ≡ 0)

-- ---- a weave

-- a loader, whatever policy it goes by
abbrev pub plain : {F : Type 0} → Opened F → Opened (Unit {0})
plain o = record { load = record { walk = o.load.walk; busy = o.load.busy; policy = tt }; seen = o.seen; fault = o.fault }

-- the policies of loaders, in their order
abbrev pub policies : {F : Type 0} → List (Opened F) → List F
policies loaders = map (λ o. o.load.policy) loaders

-- each loader goes by this policy
abbrev pub HavePolicy : {F : Type 0} → F → List (Opened F) → Type 0
HavePolicy policy [] = Unit {0}
HavePolicy policy (o ∷ os) = (o.load.policy ≡ policy) × HavePolicy policy os

-- all of them go by a policy that may be asked for each place, and answers as it may
pub record AreChosen {F : Type 0} (pre : F → Bor (List Range) → ℕ → ℕ → Type 0) (post : F → Bor (List Range) → ℕ → ℕ → Option ℕ → Type 0) (loaders : List (Opened F)) : Type 0 where
  pub policy : F
  pub may : MayChoose (pre policy)
  pub chooses : Chooses (post policy)
  pub are : HavePolicy policy loaders

-- loaders and a folder are those of a weave: the loaders where their policy is a function, the folder whatever it is
pub record IsWeaving {F : Type 0} (post : Answering) (loaders : List (Opened F)) (m : Running) (w : Choice → Weaving) : Type 0 where
  pub loaders_are : (choose : Choice) → Follows post choose → map plain loaders ≡ (w choose).loaders
  pub runs_are : (choose : Choice) → Stands m (w choose).runs

-- what a weave came to
pub record IsWoven {F : Type 0} (post : Answering) (woven : Woven F) (w : Choice → Weaving) : Type 0 where
  pub loaders_are : (choose : Choice) → Follows post choose → map plain woven.weave ≡ (w choose).loaders
  pub progress_is : (choose : Choice) → woven.runs ≡ progress (w choose).runs
