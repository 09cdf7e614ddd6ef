-- How a command starts: it recovers the folder, or stops.
use Rattle.std.specs.Prelude.{◌≡◌, ◌⊎◌, ℕ, true, false, ⊤, List, [], None, Result, Ok, Err}
use Rattle.std.specs.FinMap.{get}
use Rattle.pl_base.specs.Files.{Files}
use Rattle.pl_base.specs.Names.{is_valid_name}
use Rattle.pl_folder.specs.Disk.{Disk, read}
use Rattle.pl_folder.specs.Effects.{Effect}
use Rattle.pl_folder.specs.Seen.{Ending}
use Rattle.pl_folder.specs.Since.{Keeps}
use Rattle.pl_journal.specs.Leaves.{Looks, RecoversDisk}
use Rattle.pl_journal.specs.Meaning.{StandsFor}
use Rattle.pl_journal.specs.Parts.{RecoversFiles}
use Rattle.pl_journal.specs.RealDisk.{RunsFirmlyOn}
use Rattle.pl_change.specs.declared.cause.Cause.TheVariants.{BadName}
use Rattle.pl_change.specs.declared.fault.BatchFault.{BatchFault}
use Rattle.pl_change.specs.declared.fault.BatchFault.TheVariants.{DiskFailed, NoMemory}
use Rattle.pl_change.specs.declared.fault.BatchFault.TheVariants as faults
use Rattle.pl_change.specs.declared.cause.Cause.{Cause}
use Rattle.pl_change.specs.Commands.{CommandsFiles, CommandsOn, IsBefore, Meaning, Outcome, Made, Refused, Failed, Lacked}
use Rattle.pl_change.specs.Quiet.{WritesNothing}

-- what the command means of the recovered files has no cause yet, and no changes
abbrev pub Passes : Meaning Cause → Files → Type 0
Passes meant before = meant before ≡ Ok []

abbrev pub StartsFiles : Meaning Cause → Outcome Cause → Ending → Files → Files → Type 0
StartsFiles meant Made e old new = RecoversFiles None e old new × ((before : Files) → IsBefore (get old) before → Passes meant before)
StartsFiles meant (Refused cause) e old new = CommandsFiles meant (Refused cause) e old new
StartsFiles meant Failed e old new = StandsFor (get old) (get new)
StartsFiles meant Lacked e old new = CommandsFiles meant Lacked e old new

abbrev pub StartsOn : Meaning Cause → Outcome Cause → Disk → Disk → Type 0
StartsOn meant Made old new = RecoversDisk None (read old.now) old new × ((before : Files) → IsBefore (read old.now) before → Passes meant before) × WritesNothing old new
StartsOn meant (Refused cause) old new = CommandsOn meant (Refused cause) old new
StartsOn meant Failed old new = Looks old new ⊎ Keeps old new (StandsFor (read old.now))
StartsOn meant Lacked old new = CommandsOn meant Lacked old new

abbrev pub StartsDisk : Meaning Cause → Outcome Cause → Ending → Disk → Disk → Type 0
StartsDisk meant o e old new = StartsOn meant o old new × RunsFirmlyOn e old new

abbrev pub Starts : Meaning Cause → Outcome Cause → Effect
Starts meant o = record { files = StartsFiles meant o; disk = StartsDisk meant o }

-- why a command stops whose name is not valid, by how it started: the folder failed or memory lacked, or else for the name
abbrev pub bad_name : Result (Unit {0}) BatchFault → BatchFault
bad_name (Ok u) = faults.Cause BadName
bad_name (Err DiskFailed) = DiskFailed
bad_name (Err NoMemory) = NoMemory
bad_name (Err (faults.Cause cause)) = faults.Cause BadName

-- a command is done only for a valid name, and for any other one has no cause but this, whatever the folder tells
abbrev pub Named : {X : Type 0} → List ℕ → Result X BatchFault → Type 0
Named name (Ok x) = is_valid_name name ≡ true
Named name (Err DiskFailed) = ⊤
Named name (Err NoMemory) = ⊤
Named name (Err (faults.Cause cause)) = is_valid_name name ≡ false → cause ≡ BadName
