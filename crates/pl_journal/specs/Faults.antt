-- How a part of a run ends, by its fault.
use Rattle.std.specs.Prelude.{◌≢◌, Result, Ok, Err}
use Rattle.pl_folder.specs.Seen.{Ending, Done, Broken, Undone}
use Rattle.pl_folder.specs.declared.fault.FolderFault.{FolderFault}
use Rattle.pl_folder.specs.declared.fault.FolderFault.TheVariants as folder
use Rattle.pl_journal.specs.declared.fault.JournalFault.{JournalFault}
use Rattle.pl_journal.specs.declared.fault.JournalFault.TheVariants as faults

-- a fault of the folder, as one of a run
abbrev pub of_folder : FolderFault → JournalFault
of_folder folder.Failed = faults.Failed
of_folder folder.NotThere = faults.Failed
of_folder folder.TooLarge = faults.Failed
of_folder folder.NoMemory = faults.NoMemory

-- any fault but a bad journal
abbrev pub IsNotBad : JournalFault → Type 0
IsNotBad fault = fault ≢ faults.BadJournal

abbrev pub journal_ending : JournalFault → Ending
journal_ending faults.Failed = Broken
journal_ending faults.BadJournal = Undone
journal_ending faults.NoMemory = Undone

abbrev pub part_ending : {X : Type 0} → Result X JournalFault → Ending
part_ending (Ok x) = Done
part_ending (Err fault) = journal_ending fault
