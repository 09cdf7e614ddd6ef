-- How a run ended, by its status.
use Rattle.std.specs.Prelude.{Bool, true, false}
use Rattle.pl_folder.specs.Seen.{Ending, Done, Broken, Undone}
use Rattle.pl_words.specs.declared.status.Status.{Status}
use Rattle.pl_words.specs.declared.status.Status.TheVariants as statuses

-- whether the input failed
abbrev pub is_read_fault : Status → Bool
is_read_fault statuses.Done = false
is_read_fault statuses.Differs = false
is_read_fault statuses.Usage = false
is_read_fault statuses.Refused = false
is_read_fault statuses.ReadFault = true
is_read_fault statuses.WriteFault = false
is_read_fault statuses.DiskFault = false
is_read_fault statuses.NoMemory = false

-- how a run ended for the folder: it failed, or memory lacked, or neither
abbrev pub ending_of : Status → Ending
ending_of statuses.Done = Done
ending_of statuses.Differs = Done
ending_of statuses.Usage = Done
ending_of statuses.Refused = Done
ending_of statuses.ReadFault = Done
ending_of statuses.WriteFault = Done
ending_of statuses.DiskFault = Broken
ending_of statuses.NoMemory = Undone
