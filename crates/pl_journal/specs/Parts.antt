-- The parts of a run that writes by the journal: what each makes of the files that are read, and of the disk.
use Rattle.std.specs.Prelude.{◌≡◌, ◌⊎◌, ℕ, ◌+◌, ◌<◌, ◌≤◌, ◌&&◌, Bool, get_or, nat_lt, if◌then◌else◌, ltb, cond, List, [], ◌∷◌, drop, true, Option, Some, None, is_some, length}
use Rattle.std.specs.FinMap.{get}
use Rattle.pl_base.specs.Files.{Files}
use Rattle.pl_folder.specs.Calls.{Calls, IsThere}
use Rattle.pl_folder.specs.Disk.{Name, View, State, Disk, IsWhole, after, read, same}
use Rattle.pl_folder.specs.Effects.{Effect, SameFiles, StepsDisk, StepsDiskOrNot, StepsFiles, files_after_rename}
use Rattle.pl_folder.specs.Seen.{Ending, Done, Broken, Undone, Seen}
use Rattle.pl_folder.specs.Since.{Keeps, Within}
use Rattle.pl_folder.specs.States as state
use Rattle.pl_journal.specs.Meaning.{Agree, Edit, HasNoOwn, IsSettled, Same, StandsBetween, StandsFor, applied, rows_for}
use Rattle.pl_journal.specs.FileNames.{name_text}
use Rattle.pl_journal.specs.Names.{beside, is_journal_name, journal, journal_new}
use Rattle.pl_journal.specs.Phases.{AreSteps, Clearing, Committing, Finishing, IsClearing, IsDoing, IsStaging, IsStep, Midway, RowAt, Untouched, all_staged, finished, shifted, staged, with_bytes}
use Rattle.pl_journal.specs.Reading.{rows_spelled}
use Rattle.pl_journal.specs.Rows.{done_from, recovered, rows_in}
use Rattle.pl_journal.specs.Spelling.{are_rows, journal_bytes}
use Rattle.pl_journal.specs.Leaves.{DoEdits, IsCalm, Looks, OwnAreIn, RecoversDisk, RecoversFirst}
use Rattle.pl_journal.specs.Lists.{IsListOf, is_listed}
use Rattle.pl_journal.specs.declared.fault.JournalFault.{JournalFault}
use Rattle.pl_journal.specs.declared.fault.JournalFault.TheVariants.{Failed, BadJournal, NoMemory}
use Rattle.pl_journal.specs.declared.row.Row.{Row}
use Rattle.pl_journal.specs.declared.change.Change.TheVariants.{Put as Write, Drop as Erase}
use Rattle.pl_journal.specs.declared.step.Step.{Step}
use Rattle.pl_journal.specs.declared.step.Step.TheVariants.{Put as PutStep, Drop as DropStep, Skip}

abbrev pub AtDone : Ending → Type 0 → Type 0
AtDone Done X = X
AtDone Broken X = Unit {0}
AtDone Undone X = Unit {0}

-- where it is done, this is read afterwards
abbrev pub Reads : (View → View) → Ending → Files → Files → Type 0
Reads f e old new = AtDone e (Same (get new) (f (get old)))

-- the same, and where the folder failed this is read or what was read before
abbrev pub ReadsOrNot : (View → View) → Ending → Files → Files → Type 0
ReadsOrNot f Done old new = Same (get new) (f (get old))
ReadsOrNot f Broken old new = Same (get new) (get old) ⊎ Same (get new) (f (get old))
ReadsOrNot f Undone old new = Unit {0}

-- by how it ended: done, or the folder failed
abbrev pub AtEnd : Ending → Type 0 → Type 0 → Type 0
AtEnd Done X Y = X
AtEnd Broken X Y = Y
AtEnd Undone X Y = Unit {0}

-- from a state with A, each image on the way has P, and where it is done the state has B
abbrev pub Goes : (State → Type 0) → (View → Type 0) → (State → Type 0) → Ending → Disk → Disk → Type 0
Goes A P B e old new = A old.now → Keeps old new P × AtDone e (B new.now)

-- ---- a file that is made firm and gets another name: `firm`, `rename`

abbrev pub NamesFiles : Name → Name → Ending → Files → Files → Type 0
NamesFiles from to e old new = StepsFiles (λ files. files_after_rename files from to) e old new

abbrev pub is_firm : Name → Disk → Disk
is_firm name d = after (state.firmed name d.now) d

abbrev pub NamesDisk : Name → Name → Ending → Disk → Disk → Type 0
NamesDisk from to Done old new = StepsDisk (state.renamed from to) Done (is_firm from old) new
NamesDisk from to Broken old new = StepsDiskOrNot (state.firmed from) Broken old new ⊎ StepsDisk (state.renamed from to) Broken (is_firm from old) new
NamesDisk from to Undone old new = StepsDisk (state.renamed from to) Undone (is_firm from old) new

abbrev pub NamesFile : Name → Name → Effect
NamesFile from to = record { files = NamesFiles from to; disk = NamesDisk from to }

-- ---- staging

-- only own names are written, and not the journal's
abbrev pub WritesOwn : Files → Files → Type 0
WritesOwn old new = Agree (get new) (get old) × (get new journal ≡ get old journal)

-- where it is done, this is read afterwards; however it ends, only own names are written
abbrev pub ReadsStaged : (View → View) → Ending → Files → Files → Type 0
ReadsStaged f e old new = Reads f e old new × WritesOwn old new

abbrev pub PutsOwnDisk : Name → List ℕ → Ending → Disk → Disk → Type 0
PutsOwnDisk name bytes e old new = (before r : View) → Goes (IsStaging before r) (Untouched before) (IsStaging before (with_bytes name bytes r)) e old new

-- a file under one of the journal's own names
abbrev pub PutsOwn : Name → List ℕ → Effect
PutsOwn name bytes = record { files = ReadsStaged (with_bytes name bytes); disk = PutsOwnDisk name bytes }

-- a change's file under the name beside
abbrev pub put_beside : ℕ → Edit → View → View
put_beside i (Write name bytes) v = with_bytes (beside i) bytes v
put_beside i (Erase name) v = v

abbrev pub StagesOneDisk : ℕ → Edit → Ending → Disk → Disk → Type 0
StagesOneDisk i change e old new = (before r : View) → Goes (IsStaging before r) (Untouched before) (IsStaging before (put_beside i change r)) e old new

abbrev pub StagesOne : ℕ → Edit → Effect
StagesOne i change = record { files = ReadsStaged (put_beside i change); disk = StagesOneDisk i change }

-- the changes from number k on are left to be staged
abbrev pub StagesToFiles : ℕ → List Edit → Ending → Files → Files → Type 0
StagesToFiles k edits e old new = AtDone e (Same (staged k (drop k edits) (get new)) (staged 0 edits (get old))) × WritesOwn old new

abbrev pub IsStagedTo : View → View → ℕ → List Edit → State → Type 0
IsStagedTo before r k edits s = IsStaging before (read s) s × Same (staged k (drop k edits) (read s)) (staged 0 edits r)

abbrev pub StagesToDisk : ℕ → List Edit → Ending → Disk → Disk → Type 0
StagesToDisk k edits e old new = (before r : View) → Goes (IsStaging before r) (Untouched before) (IsStagedTo before r k edits) e old new

abbrev pub StagesTo : ℕ → List Edit → Effect
StagesTo k edits = record { files = StagesToFiles k edits; disk = StagesToDisk k edits }

abbrev pub StagesFilesDisk : List Edit → Ending → Disk → Disk → Type 0
StagesFilesDisk edits e old new = (before r : View) → Goes (IsStaging before r) (Untouched before) (IsStaging before (staged 0 edits r)) e old new

abbrev pub StagesFiles : List Edit → Effect
StagesFiles edits = record { files = ReadsStaged (staged 0 edits); disk = StagesFilesDisk edits }

-- the journal's bytes
abbrev pub journal_of : List Edit → List ℕ
journal_of edits = journal_bytes (rows_for edits)

abbrev pub StagesDisk : List Edit → Ending → Disk → Disk → Type 0
StagesDisk edits e old new = (before : View) → Goes (IsSettled before) (Untouched before) (IsStaging before (all_staged edits (journal_of edits) before)) e old new

-- the files of the changes, and the journal
abbrev pub Stages : List Edit → Effect
Stages edits = record { files = ReadsStaged (all_staged edits (journal_of edits)); disk = StagesDisk edits }

-- ---- the commit

abbrev pub CommitsDisk : Ending → Disk → Disk → Type 0
CommitsDisk e old new =
    (before r : View) (rows : List Row) → is_some (r journal_new) ≡ true → Goes (IsStaging before r) (Committing before r rows) (IsDoing (shifted journal_new journal r) rows 0) e old new

abbrev pub Commits : Effect
Commits = record { files = ReadsOrNot (shifted journal_new journal); disk = CommitsDisk }

-- ---- the rows

abbrev pub stepped : Step → View → View
stepped (PutStep from to) v n = shifted (name_text from) (name_text to) v n
stepped (DropStep name) v n = cond (same n (name_text name)) None (v n)
stepped Skip v n = v n

-- what a step asks for is there
abbrev pub CanStep : Seen → Step → Type 0
CanStep seen (PutStep from to) = IsThere seen (name_text from)
CanStep seen (DropStep name) = Unit {0}
CanStep seen Skip = Unit {0}

abbrev pub StepsOnDisk : Step → Ending → Disk → Disk → Type 0
StepsOnDisk step e old new =
    (v : View) (rows : List Row) (k : ℕ) (row : Row) → are_rows rows ≡ true → RowAt 0 rows k row → IsStep v k row step → Goes (IsDoing v rows k) (Midway v rows) (IsDoing v rows (k + 1)) e old new

abbrev pub StepsOn : Step → Effect
StepsOn step = record { files = ReadsOrNot (stepped step); disk = StepsOnDisk step }

-- the steps do a journal's rows, of a folder that reads so
pub record DoRows (steps : List Step) (v : View) : Type 0 where
  pub rows : List Row
  pub fine : are_rows rows ≡ true
  pub steps_are : AreSteps v 0 rows steps

-- the steps of the folder's own journal, where it tells its files
abbrev pub CanDo : Seen → List Step → Type 0
CanDo seen steps = seen.tells ≡ true → DoRows steps (get seen.files)

abbrev pub DoesToFiles : ℕ → List Step → Ending → Files → Files → Type 0
DoesToFiles k steps e old new = (rows : List Row) → are_rows rows ≡ true → AreSteps (get old) 0 rows steps → AtEnd e (Same (get new) (done_from 0 rows (λ j. ltb j k) (get old))) (Midway (get old) rows (get new))

abbrev pub DoesToDisk : ℕ → List Step → Ending → Disk → Disk → Type 0
DoesToDisk k steps e old new = (v : View) (rows : List Row) → are_rows rows ≡ true → AreSteps v 0 rows steps → Goes (IsDoing v rows 0) (Midway v rows) (IsDoing v rows k) e old new

-- the first k rows are done
abbrev pub DoesTo : ℕ → List Step → Effect
DoesTo k steps = record { files = DoesToFiles k steps; disk = DoesToDisk k steps }

abbrev pub DoesRows : List Step → Effect
DoesRows steps = DoesTo (length steps) steps

-- ---- the end

abbrev pub without_journal : View → View
without_journal v n = cond (same n journal) None (v n)

abbrev pub IsFinished : View → List Row → State → Type 0
IsFinished v rows s = IsWhole s × Within s (Same (finished v rows))

abbrev pub FinishesDisk : Ending → Disk → Disk → Type 0
FinishesDisk e old new = (v : View) (rows : List Row) → are_rows rows ≡ true → Goes (IsDoing v rows (length rows)) (Finishing v rows) (IsFinished v rows) e old new

abbrev pub Finishes : Effect
Finishes = record { files = ReadsOrNot without_journal; disk = FinishesDisk }

-- ---- from staging to the end

-- a folder had these files, none of them under an own name, these are changes that a journal can have, and these steps do them
pub record IsReady (before : View) (edits : List Edit) (steps : List Step) : Type 0 where
  pub no_own : HasNoOwn before
  pub fine : are_rows (rows_for edits) ≡ true
  pub does : DoEdits 0 edits steps

-- changes that these steps do are staged
pub record ReadsReady (steps : List Step) (v : View) : Type 0 where
  pub before : View
  pub edits : List Edit
  pub ready : IsReady before edits steps
  pub reads : Same v (all_staged edits (journal_of edits) before)

-- the same, where the folder tells its files
abbrev pub CanPut : Seen → List Step → Type 0
CanPut seen steps = seen.tells ≡ true → ReadsReady steps (get seen.files)

abbrev pub PutsFiles : List Step → Ending → Files → Files → Type 0
PutsFiles steps e old new =
    (before : View) (edits : List Edit) → IsReady before edits steps → Same (get old) (all_staged edits (journal_of edits) before) → AtEnd e (Same (get new) (applied edits before)) (StandsBetween before edits (get new))

abbrev pub PutsDisk : List Step → Ending → Disk → Disk → Type 0
PutsDisk steps e old new =
    (before : View) (edits : List Edit) → IsReady before edits steps → Goes (IsStaging before (all_staged edits (journal_of edits) before)) (StandsBetween before edits) (IsSettled (applied edits before)) e old new

abbrev pub PutsInPlace : List Step → Effect
PutsInPlace steps = record { files = PutsFiles steps; disk = PutsDisk steps }

-- ---- all changes or none

-- The folder has the changes made. Where the folder failed, recovering it gives the files before or those after; after want of memory those before.
abbrev pub CarriesDisk : View → List Edit → Ending → Disk → Disk → Type 0
CarriesDisk before edits Done old new = Keeps old new (StandsBetween before edits) × IsSettled (applied edits before) new.now
CarriesDisk before edits Broken old new = Keeps old new (StandsBetween before edits)
CarriesDisk before edits Undone old new = Keeps old new (StandsFor before)

-- the same of the files as they read, where the folder tells these alone
abbrev pub CarriesFiles : View → List Edit → Ending → View → Type 0
CarriesFiles before edits Done v = Same v (applied edits before)
CarriesFiles before edits Broken v = StandsBetween before edits v
CarriesFiles before edits Undone v = StandsFor before v

abbrev pub CarriesOutFiles : List Edit → Ending → Files → Files → Type 0
CarriesOutFiles edits e old new = HasNoOwn (get old) → CarriesFiles (get old) edits e (get new)

abbrev pub CarriesOutDisk : List Edit → Ending → Disk → Disk → Type 0
CarriesOutDisk edits e old new = (before : View) → IsSettled before old.now → CarriesDisk before edits e old new

abbrev pub CarriesOut : List Edit → Effect
CarriesOut edits = record { files = CarriesOutFiles edits; disk = CarriesOutDisk edits }

-- ---- recovery

-- no own name is there, where the folder tells its files
abbrev pub IsRested : Seen → Type 0
IsRested seen = seen.tells ≡ true → HasNoOwn (get seen.files)

-- what a read gives is the only image, where the folder tells its disk
abbrev pub IsStill : Seen → Type 0
IsStill seen = seen.records ≡ true → Within seen.disk.now (Same (read seen.disk.now))

-- there is nothing to recover: the folder is settled, and has no own name
pub record IsAtRest (seen : Seen) : Type 0 where
  pub rested : IsRested seen
  pub settled : seen.records ≡ true → IsSettled (read seen.disk.now) seen.disk.now

-- where no own name is there, its only calls are one `settle` and one `names`
abbrev pub IsQuiet : Seen → Seen → Type 0
IsQuiet old new = IsRested old → old.records ≡ true → new.disk ≡ after (state.settled old.disk.now) (after (state.settled old.disk.now) old.disk)

-- the names are the folder's, where it tells its files
abbrev pub AreNames : Seen → List Name → Type 0
AreNames seen names = seen.tells ≡ true → IsListOf names (get seen.files)

abbrev pub LooksDisk : Ending → Disk → Disk → Type 0
LooksDisk e old new = Looks old new

-- calls that only read
abbrev pub Looking : Effect
Looking = record { files = SameFiles; disk = LooksDisk }

-- steps that do the rows of the journal, of a folder that reads so
pub record DoesJournalOf (steps : List Step) (v : View) : Type 0 where
  pub rows : List Row
  pub spelled : rows_in (v journal) ≡ Some rows
  pub steps_are : AreSteps v 0 rows steps

-- what stood for a folder as its own names went still does
abbrev pub StillClears : Files → Files → Type 0
StillClears old new = (v : View) (rows : List Row) → are_rows rows ≡ true → Clearing v rows (get old) → Clearing v rows (get new)

-- an own name is dropped
abbrev pub without_own : Name → View → View
without_own name v n = cond (is_journal_name name && same n name) None (v n)

abbrev pub RemovesIfOwnDisk : Name → Ending → Disk → Disk → Type 0
RemovesIfOwnDisk name e old new =
    ((v : View) (rows : List Row) → are_rows rows ≡ true → Goes (IsClearing v rows) (Clearing v rows) (IsClearing v rows) e old new)
    × ((names : List Name) → OwnAreIn (name ∷ names) old.now → AtDone e (OwnAreIn names new.now))

abbrev pub RemovesIfOwn : Name → Effect
RemovesIfOwn name = record { files = λ e old new. Reads (without_own name) e old new × StillClears old new; disk = RemovesIfOwnDisk name }

-- of these names the own ones are dropped
abbrev pub without_owns : List Name → View → View
without_owns names v n = cond (is_journal_name n && is_listed n names) None (v n)

-- these names are left to be walked over
abbrev pub RemovesToFiles : List Name → List Name → Ending → Files → Files → Type 0
RemovesToFiles names left e old new = AtDone e (Same (without_owns left (get new)) (without_owns names (get old))) × StillClears old new

abbrev pub RemovesToDisk : List Name → List Name → Ending → Disk → Disk → Type 0
RemovesToDisk names left e old new =
    ((v : View) (rows : List Row) → are_rows rows ≡ true → Goes (IsClearing v rows) (Clearing v rows) (IsClearing v rows) e old new)
    × (OwnAreIn names old.now → AtDone e (OwnAreIn left new.now))

abbrev pub RemovesTo : List Name → List Name → Effect
RemovesTo names left = record { files = RemovesToFiles names left; disk = RemovesToDisk names left }

abbrev pub RemovesOwn : List Name → Effect
RemovesOwn names = RemovesTo names []

-- all rows of the journal are done, own names are left
abbrev pub DoesJournalFiles : Option JournalFault → Ending → Files → Files → Type 0
DoesJournalFiles None e old new = (rows : List Row) × (rows_in (get old journal) ≡ Some rows) × Same (get new) (done_from 0 rows (λ _. true) (get old))
DoesJournalFiles (Some Failed) e old new = StandsFor (get old) (get new)
DoesJournalFiles (Some BadJournal) e old new = (rows_in (get old journal) ≡ None) × (new ≡ old)
DoesJournalFiles (Some NoMemory) e old new = new ≡ old

abbrev pub DoesJournalOn : Option JournalFault → List Name → View → Disk → Disk → Type 0
DoesJournalOn None names v old new = (rows : List Row) × (rows_in (v journal) ≡ Some rows) × Keeps old new (StandsFor v) × IsClearing v rows new.now × OwnAreIn names new.now
DoesJournalOn (Some Failed) names v old new = Keeps old new (StandsFor v)
DoesJournalOn (Some BadJournal) names v old new = Keeps old new (Same v) × (rows_in (v journal) ≡ None)
DoesJournalOn (Some NoMemory) names v old new = Keeps old new (StandsFor v)

abbrev pub DoesJournalDisk : Option JournalFault → List Name → Ending → Disk → Disk → Type 0
DoesJournalDisk fault names e old new = (v : View) → IsCalm v old.now → IsListOf names v → DoesJournalOn fault names v old new

abbrev pub DoesJournal : List Name → Option JournalFault → Effect
DoesJournal names fault = record { files = DoesJournalFiles fault; disk = DoesJournalDisk fault names }

abbrev pub RecoversFiles : Option JournalFault → Ending → Files → Files → Type 0
RecoversFiles None e old new = (rows : List Row) × (rows_in (get old journal) ≡ Some rows) × Same (get new) (recovered (get old))
RecoversFiles (Some Failed) e old new = StandsFor (get old) (get new)
RecoversFiles (Some BadJournal) e old new = (rows_in (get old journal) ≡ None) × (new ≡ old)
RecoversFiles (Some NoMemory) e old new = new ≡ old

abbrev pub RecoversSettledDisk : Option JournalFault → Ending → Disk → Disk → Type 0
RecoversSettledDisk fault e old new = (v : View) → IsCalm v old.now → RecoversDisk fault v old new

-- from a settled folder
abbrev pub RecoversSettled : Option JournalFault → Effect
RecoversSettled fault = record { files = RecoversFiles fault; disk = RecoversSettledDisk fault }

abbrev pub RecoversAnyDisk : Option JournalFault → Ending → Disk → Disk → Type 0
RecoversAnyDisk fault e old new = RecoversFirst fault old new

-- From any folder. It holds what it stood for, and nothing of the journal's own; where the journal is outside its grammar, or the folder failed, or memory lacked,
-- it stands for what it stood for.
abbrev pub Recovers : Option JournalFault → Effect
Recovers fault = record { files = RecoversFiles fault; disk = RecoversAnyDisk fault }

-- steps that do the rows that bytes spell, of a folder with these names
pub record StepsSpelled (bytes : List ℕ) (names : List Name) (steps : List Step) : Type 0 where
  pub rows : List Row
  pub spelled : rows_spelled bytes ≡ Some rows
  pub steps_are : (v : View) → IsListOf names v → AreSteps v 0 rows steps

-- ---- one row at a time

-- the folder as it is committed
abbrev pub committed : List Edit → View → View
committed edits before = shifted journal_new journal (all_staged edits (journal_of edits) before)

-- of changes that are committed and that these steps do, the first k are done
pub record ReadsDone (steps : List Step) (k : ℕ) (v : View) : Type 0 where
  pub before : View
  pub edits : List Edit
  pub ready : IsReady before edits steps
  pub most : k ≤ length steps
  pub reads : Same v (done_from 0 (rows_for edits) (λ j. ltb j k) (committed edits before))

-- the same, where the folder tells its files
abbrev pub CanGoOn : Seen → List Step → ℕ → Type 0
CanGoOn seen steps k = seen.tells ≡ true → ReadsDone steps k (get seen.files)

-- the next row, where one is left; else nothing is called, and nothing fails
pub record NextOn (e : Ending) (steps : List Step) (done : ℕ) (old new : Seen) : Type 0 where
  pub next : done < length steps → Calls e (StepsOn (get_or steps done Skip)) old new
  pub none : length steps ≤ done → new ≡ old
  pub ends : length steps ≤ done → e ≡ Done

-- whether a row was left, and how many are done afterwards
pub record Moves (more : Bool) (most done next : ℕ) : Type 0 where
  pub left : more ≡ nat_lt done most
  pub next_is : next ≡ (if more then done + 1 else done)
