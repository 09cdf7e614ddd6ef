-- What holds of a run over a sound folder.
use Rattle.std.specs.Prelude.{◌≡◌, ℕ, true, List, Option, Some}
use Rattle.std.specs.FinMap.{get}
use Rattle.pl_elf.specs.declared.range.Range.{Range}
use Rattle.pl_folder.specs.Disk.{View, clock}
use Rattle.pl_folder.specs.Since.{Since, Within}
use Rattle.pl_journal.specs.Meaning.{Same}
use Rattle.pl_journal.specs.RealDisk.{RunsFirmlyOn}
use Rattle.pl_change.specs.Restored.{restored}
use Rattle.pl_batch.specs.declared.prelinking.Prelinking.{Prelinking}
use Rattle.law_folder.specs.Safe.{IsSafeImage, after}
use Rattle.law_folder.specs.Sound.{IsSound}
use Rattle.law_folder.specs.Steps.{IsPastAll}
use Rattle.pl_rewrite.specs.Skipped.{skip_causes}
use Rattle.pl_words.specs.declared.command.Policy.{Policy}
use Rattle.pl_cli.specs.Answer.{answer, text_answer}
use Rattle.pl_cli.specs.Outside.{Outside}
use Rattle.pl_cli.specs.Endings.{ending_of}
use Rattle.pl_cli.specs.Words.{bytes_of}
use Rattle.pl_cli.specs.Writes.{AreBytes}
use Rattle.pl_cli.specs.declared.command.Command.{Command}
use Rattle.pl_cli.specs.declared.command.Command.TheVariants.{All, Load, Weave}
use Rattle.pl_cli.specs.Detail.{Detail}
use Rattle.pl_words.specs.declared.status.Status.{Status}
use Rattle.pl_words.specs.declared.status.Status.TheVariants as statuses
use Rattle.pl_safe.specs.Ordinary.{ordinary_answer}
use Rattle.pl_safe.specs.Texts.{linked_from, weaves_from}
use Rattle.pl_safe.specs.Runs.{IsFromScratch, KeepsOriginals, LeavesPastAll, LeavesSound, StandsPastAll, changed_name, is_whole, meaning, writes}

-- A run of what words ask for, with w outside before it and v after it: what it answers, and what is read of the folder after it.
pub record ReadsSafe (asked : Option Command) (w v : Outside) (status : Status) : Type 0 where
  -- the files after it are sound, and stand for those before it or for those that its command makes of them
  pub reads : (bytes : List ℕ) × AreBytes w.input.left bytes × IsSafeImage (meaning asked bytes) (restored w.folder.files) (get v.folder.files)
  -- after `-a` they are those from scratch
  pub scratch : (p : Prelinking) (detail : Detail) → asked ≡ Some (All p detail) → status ≡ statuses.Done → IsFromScratch (restored w.folder.files) p (get v.folder.files)
  -- where no stamp was past the last one of the cache, none is of the files that they stand for,
  pub stamps : IsPastAll (get (restored w.folder.files)) → StandsPastAll (get v.folder.files)
  -- nor, after a command that writes, is done or refused, of themselves
  pub past : IsPastAll (get (restored w.folder.files)) → writes asked ≡ true → is_whole status ≡ true → IsPastAll (get v.folder.files)
  -- at most one name's original is not the one before
  pub originals : (bytes : List ℕ) → KeepsOriginals (changed_name asked) (get (restored w.folder.files)) (after (meaning asked bytes) (restored w.folder.files))
  -- the answer to `--load` is the one that links the originals
  pub load : (name : List ℕ) (busy : Option Range) (policy : Policy) → asked ≡ Some (Load name busy policy) → answer asked w.folder.files (bytes_of w.input.left) ≡ ordinary_answer skip_causes policy busy w.folder.files name
  -- and the answer to `--weave` is the one whose loaders print what linking the originals of the files that they saw gives, where no stamp is past the last one of the folder's cache
  pub weave : asked ≡ Some Weave → IsPastAll (get w.folder.files) → answer asked w.folder.files (bytes_of w.input.left) ≡ text_answer (weaves_from linked_from (bytes_of w.input.left) w.folder.files)

-- The same run: which images it leaves.
pub record IsSafeRun (asked : Option Command) (w v : Outside) (status : Status) : Type 0 where
  -- each image since the start is sound
  pub every : (image : View) → Since v.folder.disk (clock w.folder.disk) image → IsSound image
  -- it only looked, or each image of a moment after the start stands for the files before it or for those after it
  pub leaves : (bytes : List ℕ) × AreBytes w.input.left bytes × LeavesSound (meaning asked bytes) w.folder v.folder
  -- after a command that writes, is done or refused, the files after it are the only image
  pub ends : writes asked ≡ true → is_whole status ≡ true → (bytes : List ℕ) × AreBytes w.input.left bytes × Within v.folder.disk.now (Same (after (meaning asked bytes) (restored w.folder.files)))
  -- after `-a` each image has the files from scratch
  pub scratch : (p : Prelinking) (detail : Detail) → asked ≡ Some (All p detail) → status ≡ statuses.Done → Within v.folder.disk.now (IsFromScratch (restored w.folder.files) p)
  -- where no stamp was past the last one of the cache, in the files that each image at the start stood for, none is in those that an image since the start stands for;
  pub stamps : Within w.folder.disk.now StandsPastAll → (image : View) → Since v.folder.disk (clock w.folder.disk) image → StandsPastAll image
  -- where none was in the files that were read, it only looked, or none is in those that an image of a moment after the start stands for,
  pub later : IsPastAll (get (restored w.folder.files)) → LeavesPastAll w.folder v.folder
  -- nor, after a command that writes, is done or refused, in an image itself
  pub past : IsPastAll (get (restored w.folder.files)) → writes asked ≡ true → is_whole status ≡ true → Within v.folder.disk.now IsPastAll
  -- and what it answers, and what is read after it
  pub read : ReadsSafe asked w v status

-- of a folder that tells its files and reads as a sound one; and of one that tells its disk, where each image at the start was sound
pub record StaysSafe (asked : Option Command) (w v : Outside) (status : Status) : Type 0 where
  pub files : w.folder.tells ≡ true → IsSound (get w.folder.files) → ReadsSafe asked w v status
  pub images : w.folder.records ≡ true → Within w.folder.disk.now IsSound → IsSafeRun asked w v status
  -- the same run on a disk whose settle makes names last and no file's bytes goes on alike, but for the firmness of files that were loose at its start
  pub real : w.folder.records ≡ true → RunsFirmlyOn (ending_of status) w.folder.disk v.folder.disk
