-- The outside of a run, and what each part of it shows of how a run ended.
use Rattle.std.specs.Prelude.{◌≡◌, ◌+◌, ℕ, Bool, true, false, not, Option, Some, None, is_some}
use Rattle.pl_base.specs.Counts.{Counted}
use Rattle.pl_io.specs.Reads.{TookAtMost}
use Rattle.pl_io.specs.Seen.{Input, Output}
use Rattle.pl_folder.specs.Seen.{Seen, Done}
use Rattle.pl_cli.specs.declared.command.Command.{Command}
use Rattle.pl_cli.specs.declared.command.Command.TheVariants.{Load, All, Preview, UndoAll, Undo, Verify, Store, Remove, Fix, Unfix, Print, Order, Demo, Weave}
use Rattle.pl_words.specs.declared.status.Status.{Status}
use Rattle.pl_words.specs.declared.status.Status.TheVariants as statuses
use Rattle.pl_script.specs.declared.TheConstants.{SCRIPT}
use Rattle.pl_cli.specs.Words.{asks_folder, reads_input}
use Rattle.pl_cli.specs.Writes.{most_bytes}

pub record Outside : Type 0 where
  pub folder : Seen
  pub input : Input
  pub output : Output

abbrev pub outside : Seen → Input → Output → Outside
outside folder input output = record { folder = folder; input = input; output = output }

-- ---- statuses

abbrev pub is_write_fault : Status → Bool
is_write_fault statuses.Done = false
is_write_fault statuses.Differs = false
is_write_fault statuses.Usage = false
is_write_fault statuses.Refused = false
is_write_fault statuses.ReadFault = false
is_write_fault statuses.WriteFault = true
is_write_fault statuses.DiskFault = false
is_write_fault statuses.NoMemory = false

-- whether it compares a file
abbrev pub compares : Option Command → Bool
compares (Some (Verify name)) = true
compares _ = false

-- Whether a run may end so: Usage comes for words that are no command alone, Differs where a file is compared, and a fault only where its object is asked.
abbrev pub may_end : Option Command → Status → Bool
may_end asked statuses.Done = is_some asked
may_end asked statuses.Differs = compares asked
may_end asked statuses.Usage = not (is_some asked)
may_end asked statuses.Refused = is_some asked
may_end asked statuses.ReadFault = reads_input asked
may_end asked statuses.WriteFault = true
may_end asked statuses.DiskFault = asks_folder asked
may_end asked statuses.NoMemory = true

-- ---- the input

-- the most bytes that an input may have
abbrev pub most_read : Option Command → ℕ
most_read None = 0
most_read (Some (Load name busy policy)) = 0
most_read (Some (All asked detail)) = 0
most_read (Some (Preview asked detail)) = 0
most_read (Some UndoAll) = 0
most_read (Some (Undo names)) = 0
most_read (Some (Store name kind)) = most_bytes kind
most_read (Some (Remove name)) = 0
most_read (Some (Fix name policy)) = 0
most_read (Some (Unfix name)) = 0
most_read (Some (Verify name)) = 0
most_read (Some Print) = 0
most_read (Some Weave) = SCRIPT
most_read (Some (Order name detail)) = 0
most_read (Some (Demo number)) = 0

-- An input counts a fault exactly where it failed. Nothing is read of one that is not to be read, and else no more than one byte more than it may have.
pub record Consumes (reads : Bool) (bound : ℕ) (failed : Bool) (old new : Input) : Type 0 where
  pub untouched : reads ≡ false → new ≡ old
  pub tells : is_some new.left ≡ is_some old.left
  pub most : reads ≡ true → failed ≡ false → TookAtMost old.left new.left (bound + 1)
  pub count : Counted failed old.faults new.faults
