-- What came of a run.
use Rattle.std.specs.Prelude.{◌≡◌, ℕ, true, false, List, Option, Some, is_some, ⊤}
use Rattle.pl_base.specs.Counts.{Counted}
use Rattle.pl_base.specs.Streams.{got_after, GotPrefix}
use Rattle.pl_elf.specs.declared.range.Range.{Range}
use Rattle.pl_io.specs.Seen.{Input, Output}
use Rattle.pl_folder.specs.Calls.{Calls}
use Rattle.pl_folder.specs.Seen.{Seen, is_broken}
use Rattle.pl_words.specs.declared.command.Policy.{Policy}
use Rattle.pl_cli.specs.declared.command.Command.{Command}
use Rattle.pl_cli.specs.declared.command.Command.TheVariants.{Load}
use Rattle.pl_words.specs.declared.status.Status.{Status}
use Rattle.pl_words.specs.declared.status.Status.TheVariants as statuses
use Rattle.pl_texts.specs.declared.stop.Stop.{Stop}
use Rattle.pl_texts.specs.declared.stop.Stop.TheVariants as stops
use Rattle.pl_cli.specs.Answer.{Answer, IsTold, answer, refuses}
use Rattle.pl_cli.specs.Came.{Makes}
use Rattle.pl_cli.specs.Outside.{Consumes, Outside, outside, is_write_fault, may_end, most_read}
use Rattle.pl_texts.specs.Endings.{ending_of, is_read_fault}
use Rattle.pl_cli.specs.Words.{bytes_of, reads_input}

-- ---- what is written

-- An answer comes only whole, with its status; where the output failed it got some first bytes of the text; and no other fault comes after a byte.
abbrev pub Prints : Type 0 → Answer → Status → Option (List ℕ) → Option (List ℕ) → Type 0
Prints told meant statuses.Done old new = told → (meant.status ≡ statuses.Done) × (new ≡ got_after old meant.text)
Prints told meant statuses.Differs old new = told → (meant.status ≡ statuses.Differs) × (new ≡ got_after old meant.text)
Prints told meant statuses.Usage old new = told → (meant.status ≡ statuses.Usage) × (new ≡ got_after old meant.text)
Prints told meant statuses.Refused old new = told → (meant.status ≡ statuses.Refused) × (new ≡ got_after old meant.text)
Prints told meant statuses.WriteFault old new = told → GotPrefix old new meant.text
Prints told meant statuses.ReadFault old new = new ≡ old
Prints told meant statuses.DiskFault old new = new ≡ old
Prints told meant statuses.NoMemory old new = new ≡ old

-- an answer is written: its whole text, or the output failed, or before the first byte there was no memory
pub record Writes (meant : Answer) (result : Status) (old new : Output) : Type 0 where
  pub prints : Prints ⊤ meant result old.got new.got
  pub folder : is_broken (ending_of result) ≡ false
  pub input : is_read_fault result ≡ false
  pub count : Counted (is_write_fault result) old.faults new.faults

-- a text is written whole and the run ends so, or the output failed in it
pub record Finishes (meant : Answer) (result : Status) (old new : Output) : Type 0 where
  pub ends : is_write_fault result ≡ false → result ≡ meant.status
  pub whole : is_write_fault result ≡ false → new.got ≡ got_after old.got meant.text
  pub prefix : is_write_fault result ≡ true → GotPrefix old.got new.got meant.text
  pub count : Counted (is_write_fault result) old.faults new.faults

-- the line of a cause is written, and of no other stop anything
abbrev pub Refuses : Stop → Status → Output → Output → Type 0
Refuses (stops.Cause cause) result old new = Writes (refuses cause) result old new
Refuses stops.Failed result old new = (result ≡ statuses.DiskFault) × (new ≡ old)
Refuses stops.InputFailed result old new = (result ≡ statuses.ReadFault) × (new ≡ old)
Refuses stops.NoMemory result old new = (result ≡ statuses.NoMemory) × (new ≡ old)

-- ---- the whole

-- the answer to what was asked, where this is outside
abbrev pub answer_in : Option Command → Outside → Answer
answer_in asked w = answer asked w.folder.files (bytes_of w.input.left)

-- all that it rests on is told
abbrev pub HasTold : Option Command → Outside → Type 0
HasTold asked w = IsTold asked w.folder.tells (is_some w.input.left)

-- A run of what words ask for, with w outside before it and v after it.
pub record Ran (asked : Option Command) (w v : Outside) (status : Status) : Type 0 where
  -- which statuses may come
  pub ends : may_end asked status ≡ true
  -- what is printed: over every folder and input for words that are no command, and for a name that is not valid
  pub prints : Prints (HasTold asked w) (answer_in asked w) status w.output.got v.output.got
  -- what becomes of the folder; a fault is counted exactly where it ends with one
  pub folder : Calls (ending_of status) (Makes asked w.folder.files w.input.left status) w.folder v.folder
  -- what is read
  pub input : Consumes (reads_input asked) (most_read asked) (is_read_fault status) w.input v.input
  pub output : Counted (is_write_fault status) w.output.faults v.output.faults

-- a run of `--load`, over any input
abbrev pub RanLoad : List ℕ → Option Range → Policy → Seen → Seen → Output → Output → Status → Type 0
RanLoad name busy policy a b o p status = (input : Input) → Ran (Some (Load name busy policy)) (outside a input o) (outside b input p) status
