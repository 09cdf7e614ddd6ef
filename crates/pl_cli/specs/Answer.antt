-- What a run answers to what its words ask for, for the files of its folder and the bytes of its input.
use Rattle.std.specs.Prelude.{◌≡◌, ℕ, Bool, true, List, length, Option, Some, None, Result, Ok, Err}
use Rattle.pl_base.specs.Answers.{◌>>=◌, because}
use Rattle.pl_base.specs.Files.{Files}
use Rattle.pl_journal.specs.declared.change.Change.{Change}
use Rattle.pl_loader.specs.Started.{Start}
use Rattle.pl_change.specs.Replace.{address_of}
use Rattle.pl_change.specs.Restored.{restored}
use Rattle.pl_batch.specs.declared.run.Run.TheVariants as runs
use Rattle.pl_words.specs.declared.status.Status.{Status}
use Rattle.pl_words.specs.declared.status.Status.TheVariants as statuses
use Rattle.pl_texts.specs.declared.cause.Cause.{Cause}
use Rattle.pl_cli.specs.declared.command.Command.{Command}
use Rattle.pl_cli.specs.declared.command.Command.TheVariants.{Load, All, Preview, UndoAll, Undo, Verify, Store, Remove, Fix, Unfix, Print, Order, Demo, Weave}
use Rattle.pl_cli.specs.Demo.{demo_text}
use Rattle.pl_cli.specs.Load.{load_result, choice}
use Rattle.pl_texts.specs.LoadText.{load_text}
use Rattle.pl_texts.specs.DoneText.{undone_text, stored_text, removed_text, fixed_text, unfixed_text, usage, differs_text}
use Rattle.pl_texts.specs.Order.{ordered}
use Rattle.pl_texts.specs.Print.{printed}
use Rattle.pl_texts.specs.Refusals.{refusal}
use Rattle.pl_cli.specs.Reports.{previewed, reported}
use Rattle.pl_cli.specs.Verified.{verifies}
use Rattle.pl_cli.specs.Weave.{weaves}
use Rattle.pl_cli.specs.Words.{reads_input, rests_on_files}
use Rattle.pl_cli.specs.Writes.{fixes, loosens, removes, stores, undoes}
use Rattle.pl_texts.specs.Stops.{of_batch}
use Rattle.pl_words.specs.declared.command.Policy.{Policy}

-- ---- answers

-- a status, and the text that is written
pub record Answer : Type 0 where
  pub status : Status
  pub text : List ℕ

abbrev pub done : List ℕ → Answer
done text = record { status = statuses.Done; text = text }

abbrev pub refuses : Cause → Answer
refuses cause = record { status = statuses.Refused; text = refusal cause }

abbrev pub load_answer : Result Start Cause → Answer
load_answer (Ok start) = done (load_text start)
load_answer (Err cause) = refuses cause

-- the rows of a writing command, or the cause why there are none
abbrev pub write_answer : (List Change → List ℕ) → Result (List Change) Cause → Answer
write_answer text (Ok rows) = done (text rows)
write_answer text (Err cause) = refuses cause

-- the original of a file that was compared, or that it differs
abbrev pub compared : Option (List ℕ) → Answer
compared (Some original) = done original
compared None = record { status = statuses.Differs; text = differs_text }

abbrev pub compare_answer : Result (Option (List ℕ)) Cause → Answer
compare_answer (Ok original) = compared original
compare_answer (Err cause) = refuses cause

-- a text that is printed, or the cause why there is none
abbrev pub text_answer : Result (List ℕ) Cause → Answer
text_answer (Ok text) = done text
text_answer (Err cause) = refuses cause

-- `--fix`: where the changes can be made, the address at which the program is fixed
unfoldable pub fixed_line : Policy → List ℕ → Files → Result (List ℕ) Cause
fixed_line policy name files = fixes policy name files >>= λ rows. because of_batch (address_of (choice policy) files name) >>= λ at. Ok (fixed_text name at)

abbrev pub answer : Option Command → Files → List ℕ → Answer
answer None files input = record { status = statuses.Usage; text = usage }
answer (Some (Load name busy policy)) files input = load_answer (load_result policy busy files name)
answer (Some (All asked detail)) files input = text_answer (reported detail asked (restored files))
answer (Some (Preview asked detail)) files input = text_answer (previewed detail asked files)
answer (Some UndoAll) files input = write_answer (λ rows. undone_text (length rows)) (undoes runs.UndoAll (restored files))
answer (Some (Undo names)) files input = write_answer (λ rows. undone_text (length rows)) (undoes (runs.Undo names) (restored files))
answer (Some (Store name kind)) files input = write_answer (λ rows. stored_text kind name) (stores name kind input (restored files))
answer (Some (Remove name)) files input = write_answer (λ rows. removed_text name) (removes name (restored files))
answer (Some (Fix name policy)) files input = text_answer (fixed_line policy name (restored files))
answer (Some (Unfix name)) files input = write_answer (λ rows. unfixed_text name) (loosens name (restored files))
answer (Some (Verify name)) files input = compare_answer (verifies name files)
answer (Some Print) files input = text_answer (printed files)
answer (Some Weave) files input = text_answer (weaves input files)
answer (Some (Order name detail)) files input = text_answer (ordered detail files name)
answer (Some (Demo number)) files input = done (demo_text number)

-- all that an answer rests on is told: the folder's files, and what is read of the input
pub record IsTold (asked : Option Command) (tells told : Bool) : Type 0 where
  pub files : rests_on_files asked ≡ true → tells ≡ true
  pub input : reads_input asked ≡ true → told ≡ true
