-- Why a command stopped.
use Rattle.std.specs.Prelude.{◌≡◌, ℕ, List, Result, Ok, Err, Vec, ⊤, if◌then◌else◌}
use Rattle.std.specs.declared.alloc.Global.{Global}
use Rattle.pl_io.specs.declared.read_fault.ReadFault.{ReadFault}
use Rattle.pl_io.specs.declared.read_fault.ReadFault.TheVariants as read_faults
use Rattle.pl_folder.specs.declared.fault.FolderFault.{FolderFault}
use Rattle.pl_folder.specs.declared.fault.FolderFault.TheVariants as folder_faults
use Rattle.pl_loader.specs.Faults.{is_memory}
use Rattle.pl_loader.specs.declared.fault.LoadFault.{LoadFault}
use Rattle.pl_loader.specs.declared.fault.LoadFault.TheVariants.{BadMark, NeededIsProgram, NoPlace, NotThere, Refused, TooMany}
use Rattle.pl_cache.specs.declared.fault.CacheFault.{CacheFault}
use Rattle.pl_cache.specs.declared.fault.CacheFault.TheVariants as cache_faults
use Rattle.pl_change.specs.declared.fault.BatchFault.{BatchFault}
use Rattle.pl_change.specs.declared.fault.BatchFault.TheVariants.{DiskFailed}
use Rattle.pl_change.specs.declared.fault.BatchFault.TheVariants as batch_faults
use Rattle.pl_script.specs.declared.fault.ScriptFault.{ScriptFault}
use Rattle.pl_script.specs.declared.fault.ScriptFault.TheVariants as script_faults
use Rattle.pl_build.specs.declared.fault.RecipeFault.{RecipeFault}
use Rattle.pl_build.specs.declared.fault.RecipeFault.TheVariants as recipe_faults
use Rattle.pl_texts.specs.declared.cause.Cause.{Cause}
use Rattle.pl_texts.specs.declared.cause.Cause.TheVariants as causes
use Rattle.pl_words.specs.declared.status.Status.{Status}
use Rattle.pl_words.specs.declared.status.Status.TheVariants as statuses
use Rattle.pl_texts.specs.declared.stop.Stop.{Stop}
use Rattle.pl_texts.specs.declared.stop.Stop.TheVariants as stops
use Rattle.pl_change.specs.declared.cause.Cause as batch
use Rattle.pl_change.specs.declared.cause.Cause.TheVariants as batch_causes

-- ---- what a fault of a part stops

-- a cause of a command that changes files
abbrev pub of_batch : batch.Cause → Cause
of_batch batch_causes.BadName = causes.BadName
of_batch batch_causes.BadJournal = causes.BadJournal
of_batch batch_causes.TooManyFiles = causes.TooManyFiles
of_batch (batch_causes.NotThere name) = causes.Load (NotThere name)
of_batch (batch_causes.FileTooLarge name) = causes.FileTooLarge name
of_batch (batch_causes.BadMark name) = causes.Load (BadMark name)
of_batch batch_causes.BadCache = causes.BadCache
of_batch batch_causes.FolderTooLarge = causes.FolderTooLarge
of_batch (batch_causes.NoSlot name span hole) = causes.NoSlot name span hole
of_batch (batch_causes.StampsSpent stamp) = causes.StampsSpent stamp
of_batch (batch_causes.Refused name number argument) = causes.Load (Refused name number argument)
of_batch (batch_causes.NeededIsProgram name) = causes.Load (NeededIsProgram name)
of_batch (batch_causes.TooMany name) = causes.Load (TooMany name)
of_batch (batch_causes.NotPie name) = causes.NotPie name
of_batch (batch_causes.NoPlace name) = causes.Load (NoPlace name)
of_batch (batch_causes.NotFixed name) = causes.NotFixed name

-- a fault of the folder where a file of a name was to be taken
abbrev pub of_take : List ℕ → FolderFault → Stop
of_take name folder_faults.Failed = stops.Failed
of_take name folder_faults.NotThere = stops.Cause (causes.Load (NotThere name))
of_take name folder_faults.TooLarge = stops.Cause (causes.FileTooLarge name)
of_take name folder_faults.NoMemory = stops.NoMemory

abbrev pub of_load_fault : LoadFault → Stop
of_load_fault fault = if is_memory fault then stops.NoMemory else stops.Cause (causes.Load fault)

abbrev pub of_read_fault : ReadFault → Stop
of_read_fault read_faults.Failed = stops.InputFailed
of_read_fault read_faults.TooLarge = stops.Cause causes.InputTooLarge
of_read_fault read_faults.NoMemory = stops.NoMemory

abbrev pub of_batch_fault : BatchFault → Stop
of_batch_fault DiskFailed = stops.Failed
of_batch_fault batch_faults.NoMemory = stops.NoMemory
of_batch_fault (batch_faults.Cause cause) = stops.Cause (of_batch cause)

abbrev pub of_recipe_fault : RecipeFault → Stop
of_recipe_fault (recipe_faults.Bad number kind) = stops.Cause (causes.Recipe number kind)
of_recipe_fault recipe_faults.NoMemory = stops.NoMemory

abbrev pub of_cache_fault : CacheFault → Stop
of_cache_fault cache_faults.BadCache = stops.Cause causes.BadCache
of_cache_fault cache_faults.NoMemory = stops.NoMemory

abbrev pub of_script_fault : ScriptFault → Stop
of_script_fault (script_faults.Wrong line) = stops.Cause (causes.Script line)
of_script_fault script_faults.NoMemory = stops.NoMemory

-- ---- what a stop means

-- the status that a run ends with
abbrev pub stop_status : Stop → Status
stop_status (stops.Cause cause) = statuses.Refused
stop_status stops.Failed = statuses.DiskFault
stop_status stops.InputFailed = statuses.ReadFault
stop_status stops.NoMemory = statuses.NoMemory

abbrev pub status_of : {X : Type 0} → Result X Stop → Status
status_of (Ok x) = statuses.Done
status_of (Err stop) = stop_status stop

-- a cause is the one that is meant, where all that it rests on is told; a fault and a want of memory mean nothing
abbrev pub Stops : {X : Type 0} → Type 0 → Result X Cause → Stop → Type 0
Stops told meant (stops.Cause cause) = told → meant ≡ Err cause
Stops told meant stops.Failed = ⊤
Stops told meant stops.InputFailed = ⊤
Stops told meant stops.NoMemory = ⊤

-- a value, seen by a view, and a cause are the ones that are meant
abbrev pub Means : {X Y : Type 0} → Type 0 → Result X Cause → (Y → X) → Result Y Stop → Type 0
Means told meant view (Ok y) = told → meant ≡ Ok (view y)
Means told meant view (Err stop) = Stops told meant stop

-- why a call stopped that asks nothing of the outside: for the cause that is meant, or a want of memory
abbrev pub StopsAlone : {X : Type 0} → Result X Cause → Stop → Type 0
StopsAlone meant (stops.Cause cause) = meant ≡ Err cause
StopsAlone meant stops.Failed = ⊥
StopsAlone meant stops.InputFailed = ⊥
StopsAlone meant stops.NoMemory = ⊤

abbrev pub MeansAlone : {X : Type 0} → Result X Cause → Result X Stop → Type 0
MeansAlone meant (Ok x) = meant ≡ Ok x
MeansAlone meant (Err stop) = StopsAlone meant stop

-- a text as its bytes
abbrev pub items_of : Result (Vec ℕ Global) Stop → Result (List ℕ) Stop
items_of (Ok text) = Ok text.items
items_of (Err stop) = Err stop
