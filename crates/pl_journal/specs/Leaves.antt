-- What each part of a writing command leaves of the disk.
use Rattle.std.specs.Prelude.{◌≡◌, ◌⊎◌, ℕ, ◌≤◌, ◌+◌, true, List, [], ◌∷◌, Option, Some, None, is_some, Result, Ok, Err}
use Rattle.pl_folder.specs.Disk.{Name, View, State, IsCrashImage, IsWhole, Disk, clock, read, waited}
use Rattle.pl_folder.specs.Since.{Since, Within, Keeps}
use Rattle.pl_journal.specs.Lists.{is_listed}
use Rattle.pl_journal.specs.FileNames.{name_text}
use Rattle.pl_journal.specs.Names.{is_journal_name, beside, journal}
use Rattle.pl_journal.specs.Rows.{rows_in, recovered}
use Rattle.pl_journal.specs.declared.row.Row.{Row}
use Rattle.pl_journal.specs.Meaning.{Edit, Same, StandsFor, IsSettled}
use Rattle.pl_journal.specs.declared.change.Change.TheVariants.{Put as Write, Drop as Erase}
use Rattle.pl_journal.specs.declared.step.Step.{Step}
use Rattle.pl_journal.specs.declared.step.Step.TheVariants.{Put as PutStep, Drop as DropStep, Skip}
use Rattle.pl_journal.specs.declared.fault.JournalFault.{JournalFault}
use Rattle.pl_journal.specs.declared.fault.JournalFault.TheVariants.{Failed, BadJournal, NoMemory}

-- Calls that only read: some moments pass, and nothing changes.
pub record Looks (old new : Disk) : Type 0 where
  pub waits : (k : ℕ) × (new ≡ waited k old)
  pub now : new.now ≡ old.now
  pub later : clock old ≤ clock new
  pub each : (t : ℕ) (v : View) → Since new t v → Since old t v ⊎ IsCrashImage old.now v

-- an own name that is there is one of these
abbrev pub OwnAreIn : List Name → State → Type 0
OwnAreIn names s = (n : Name) → is_journal_name n ≡ true → is_some (read s n) ≡ true → is_listed n names ≡ true

-- settled, and so all is firm and the only image is this
pub record IsCalm (v : View) (s : State) : Type 0 where
  pub whole : IsWhole s
  pub firm : (file : ℕ) → (s.files file).is_firm ≡ true
  pub only : Within s (Same v)

-- settled, with what the folder stood for, whose journal is in the grammar
pub record IsRecovered (v : View) (s : State) : Type 0 where
  pub settled : IsSettled (recovered v) s
  pub rows : List Row
  pub spelled : rows_in (v journal) ≡ Some rows

-- what does a change, number i
abbrev pub DoEdit : ℕ → Edit → Step → Type 0
DoEdit i (Write name bytes) (PutStep from to) = (name_text from ≡ beside i) × (name_text to ≡ name)
DoEdit i (Write name bytes) (DropStep n) = ⊥
DoEdit i (Write name bytes) Skip = ⊥
DoEdit i (Erase name) (PutStep from to) = ⊥
DoEdit i (Erase name) (DropStep n) = name_text n ≡ name
DoEdit i (Erase name) Skip = ⊥

-- what does the changes from number i on
abbrev pub DoEdits : ℕ → List Edit → List Step → Type 0
DoEdits i [] [] = Unit {0}
DoEdits i [] (step ∷ steps) = ⊥
DoEdits i (edit ∷ edits) [] = ⊥
DoEdits i (edit ∷ edits) (step ∷ steps) = DoEdit i edit step × DoEdits (i + 1) edits steps

-- How a recovery ended: done, or its fault.
abbrev pub fault_of : {X : Type 0} → Result X JournalFault → Option JournalFault
fault_of (Ok x) = None
fault_of (Err fault) = Some fault

-- from a settled folder that reads as v, to one that is settled and holds what v stands for
abbrev pub RecoversDisk : Option JournalFault → View → Disk → Disk → Type 0
RecoversDisk None v old new = Keeps old new (StandsFor v) × IsRecovered v new.now
RecoversDisk (Some Failed) v old new = Keeps old new (StandsFor v)
RecoversDisk (Some BadJournal) v old new = Keeps old new (Same v) × (rows_in (v journal) ≡ None)
RecoversDisk (Some NoMemory) v old new = Keeps old new (StandsFor v)

-- the same from any folder: it is settled first, or it is as it was
abbrev pub RecoversFirst : Option JournalFault → Disk → Disk → Type 0
RecoversFirst None old new = RecoversDisk None (read old.now) old new
RecoversFirst (Some fault) old new = RecoversDisk (Some fault) (read old.now) old new ⊎ ((fault ≡ Failed) × Looks old new)
