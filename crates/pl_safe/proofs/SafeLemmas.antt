-- A run over a sound folder is safe.
use Rattle.std.proofs.Common.{◌≡◌, Option, Some, true, ap, subst, ◌∙◌}
use Rattle.std.specs.FinMap.{get}
use Rattle.pl_folder.specs.Seen.{IsFolder}
use Rattle.pl_change.specs.Restored.{restored}
use Rattle.pl_batch.specs.declared.prelinking.Prelinking.{Prelinking}
use Rattle.pl_cli.specs.Answer.{answer}
use Rattle.pl_cli.specs.Outside.{Outside}
use Rattle.pl_cli.specs.Ran.{Ran}
use Rattle.pl_cli.specs.Words.{bytes_of}
use Rattle.pl_cli.specs.declared.command.Command.{Command}
use Rattle.pl_cli.specs.declared.command.Command.TheVariants.{All}
use Rattle.pl_cli.specs.Detail.{Detail}
use Rattle.pl_words.specs.declared.status.Status.{Status}
use Rattle.pl_words.specs.declared.status.Status.TheVariants as statuses
use Rattle.law_folder.specs.Sound.{IsSound}
use Rattle.pl_safe.specs.Safe.{ReadsSafe, StaysSafe}
use Rattle.pl_safe.proofs.LoadLemmas.{loads_ordinary, weaves_ordinary}
use Rattle.pl_safe.proofs.RunLemmas.{every_safe, others_keep, runs_leave, runs_on_real, runs_read, start_sound, writers_end}
use Rattle.pl_safe.proofs.ScratchLemmas.{files_scratch, images_scratch}
use Rattle.pl_safe.proofs.StampLemmas.{every_past, files_past, runs_past, writers_past, written_are_past}

-- the run of a command that is known
known : (asked : Option Command) (p : Prelinking) (detail : Detail) (w v : Outside) (status : Status) → asked ≡ Some (All p detail) → status ≡ statuses.Done → Ran asked w v status → Ran (Some (All p detail)) w v statuses.Done
known asked p detail w v status is done ran = subst (λ (s : Status). Ran (Some (All p detail)) w v s) done (subst (λ (c : Option Command). Ran c w v status) is ran)

reads_safe : (asked : Option Command) (w v : Outside) (status : Status) → Ran asked w v status → w.folder.tells ≡ true → IsSound (get w.folder.files) → ReadsSafe asked w v status
reads_safe asked w v status ran told sound = record {
  reads = runs_read asked w v status told sound ran;
  scratch = λ p detail is done. files_scratch p detail w v told sound (known asked p detail w v status is done ran);
  stamps = λ past. files_past asked w v status told sound past ran;
  past = λ past one whole. written_are_past asked w v status told sound past one whole ran;
  originals = λ bytes. others_keep asked bytes (restored w.folder.files);
  load = λ name busy policy is.
      ap (λ (c : Option Command). answer c w.folder.files (bytes_of w.input.left)) is
      ∙ loads_ordinary w.folder.files (bytes_of w.input.left) name busy policy sound;
  weave = λ is past.
      ap (λ (c : Option Command). answer c w.folder.files (bytes_of w.input.left)) is
      ∙ weaves_ordinary w.folder.files (bytes_of w.input.left) sound past;
}

pub stays_safe : (asked : Option Command) (w v : Outside) (status : Status) → IsFolder w.folder → Ran asked w v status → StaysSafe asked w v status
stays_safe asked w v status folder ran = record {
  files = reads_safe asked w v status ran;
  real = λ told. runs_on_real asked w v status told ran;
  images = λ told start.
      let sound = start_sound w.folder folder told start in
      record {
        every = every_safe asked w v status folder told start ran;
        leaves = runs_leave asked w v status folder told sound ran;
        ends = λ one whole. writers_end asked w v status folder told one whole ran;
        scratch = λ p detail is done. images_scratch p detail w v folder told sound (known asked p detail w v status is done ran);
        stamps = λ past. every_past asked w v status folder told sound past ran;
        later = λ past. runs_past asked w v status folder told sound past ran;
        past = λ past one whole. writers_past asked w v status folder told sound past one whole ran;
        read = reads_safe asked w v status ran (folder.tells told) sound;
      };
}
