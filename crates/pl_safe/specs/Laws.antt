-- Why every run leaves a sound folder, wherever it is stopped, and why loads of one are ordinary.
use Rattle.std.specs.Prelude.{◌≡◌, ◌⊎◌, ℕ, true, false, List, [], Option, Some, None}
use Rattle.std.specs.FinMap.{get}
use Rattle.pl_base.specs.Files.{Files}
use Rattle.pl_elf.specs.declared.range.Range.{Range}
use Rattle.pl_folder.specs.Disk.{Name, View, clock}
use Rattle.pl_folder.specs.Seen.{IsFolder}
use Rattle.pl_folder.specs.Since.{Since, Within}
use Rattle.pl_journal.specs.Leaves.{Looks}
use Rattle.pl_journal.specs.Meaning.{Same}
use Rattle.pl_journal.specs.Parts.{AtDone}
use Rattle.pl_journal.specs.RealDisk.{AllFirm, LosesLoose, RunsFirmlyOn, real_by}
use Rattle.pl_change.specs.Restored.{restored}
use Rattle.pl_batch.specs.declared.prelinking.Prelinking.{Prelinking}
use Rattle.law_folder.specs.Safe.{IsSafeImage, after}
use Rattle.law_folder.specs.Sound.{IsSound, named}
use Rattle.law_folder.specs.Steps.{IsPastAll}
use Rattle.pl_conflict.specs.Format.{format}
use Rattle.pl_rewrite.specs.Skipped.{skip_causes}
use Rattle.pl_scope.specs.Members.{has}
use Rattle.law_sound.specs.Rule.{matches, members}
use Rattle.pl_journal.specs.Names.{journal}
use Rattle.pl_words.specs.declared.command.Policy.{Policy}
use Rattle.pl_cli.specs.Answer.{answer, text_answer}
use Rattle.pl_cli.specs.Outside.{Outside}
use Rattle.pl_cli.specs.Endings.{ending_of}
use Rattle.pl_cli.specs.Ran.{Ran}
use Rattle.pl_cli.specs.Writes.{AreBytes}
use Rattle.pl_cli.specs.declared.command.Command.{Command}
use Rattle.pl_cli.specs.declared.command.Command.TheVariants.{All, Load, Verify, Weave}
use Rattle.pl_cli.specs.Detail.{Detail}
use Rattle.pl_words.specs.declared.status.Status.{Status}
use Rattle.pl_words.specs.declared.status.Status.TheVariants as statuses
use Rattle.pl_safe.specs.Ordinary.{ordinary_answer}
use Rattle.pl_safe.specs.Texts.{linked_from, weaves_from}
use Rattle.pl_safe.specs.Runs.{IsFromScratch, KeepsOriginals, LeavesPastAll, LeavesSound, RealKeeps, StandsPastAll, changed_name, is_whole, meaning, now_by, writes}

-- ---- every run

-- of a folder that reads as a sound one, by the bytes that its input has
abbrev pub RunsLeave : Type 0
RunsLeave =
    (asked : Option Command) (w v : Outside) (status : Status) → IsFolder w.folder → w.folder.records ≡ true → IsSound (get w.folder.files) → Ran asked w v status → (bytes : List ℕ) × AreBytes w.input.left bytes × LeavesSound (meaning asked bytes) w.folder v.folder

-- where each image at the start was sound, each one since then is; so the next run starts so
abbrev pub EveryRunIsSafe : Type 0
EveryRunIsSafe =
    (asked : Option Command) (w v : Outside) (status : Status) → IsFolder w.folder → w.folder.records ≡ true → Within w.folder.disk.now IsSound → Ran asked w v status → (image : View) → Since v.folder.disk (clock w.folder.disk) image → IsSound image

abbrev pub RunsEndSound : Type 0
RunsEndSound = (asked : Option Command) (w v : Outside) (status : Status) → IsFolder w.folder → w.folder.records ≡ true → Within w.folder.disk.now IsSound → Ran asked w v status → Within v.folder.disk.now IsSound

-- a command that only reads changes nothing,
abbrev pub ReadersLook : Type 0
ReadersLook = (asked : Option Command) (w v : Outside) (status : Status) → w.folder.records ≡ true → writes asked ≡ false → Ran asked w v status → Looks w.folder.disk v.folder.disk

-- and after one that writes the files after it are the only image
abbrev pub WritersEnd : Type 0
WritersEnd =
    (asked : Option Command) (w v : Outside) (status : Status) → IsFolder w.folder → w.folder.records ≡ true → writes asked ≡ true → is_whole status ≡ true → Ran asked w v status → (bytes : List ℕ) × AreBytes w.input.left bytes × Within v.folder.disk.now (Same (after (meaning asked bytes) (restored w.folder.files)))

-- On a disk whose settle makes names last and no file's bytes a run from the same start goes on alike, but for the firmness of files that were loose at the start and that it left alone; and where it is done each file that it made is firm.
abbrev pub RunsOnRealDisks : Type 0
RunsOnRealDisks = (asked : Option Command) (w v : Outside) (status : Status) → w.folder.records ≡ true → Ran asked w v status → RunsFirmlyOn (ending_of status) w.folder.disk v.folder.disk

-- So each image of such a disk since the start is one of the other, sound where each one at the start was, but for names that were loose at the start and have in it what they had then.
abbrev pub ImagesOfRealDisks : Type 0
ImagesOfRealDisks =
    (asked : Option Command) (w v : Outside) (status : Status) → IsFolder w.folder → w.folder.records ≡ true → Within w.folder.disk.now IsSound → Ran asked w v status
    → (run : RunsFirmlyOn (ending_of status) w.folder.disk v.folder.disk)
    × ((image : View) → Since (real_by run.calls w.folder.disk) (clock w.folder.disk) image → (sound : View) × IsSound sound × Since v.folder.disk (clock w.folder.disk) sound × LosesLoose w.folder.disk.now sound image)

-- Where it reads as a sound one, the run only looked, or each image of such a disk of a moment after the start is sound and stands for the files before it or for those after it, but for such names.
abbrev pub RealImagesStand : Type 0
RealImagesStand =
    (asked : Option Command) (w v : Outside) (status : Status) → IsFolder w.folder → w.folder.records ≡ true → IsSound (get w.folder.files) → Ran asked w v status
    → (run : RunsFirmlyOn (ending_of status) w.folder.disk v.folder.disk) × (bytes : List ℕ) × AreBytes w.input.left bytes
    × (Looks w.folder.disk v.folder.disk ⊎ RealKeeps run.calls w.folder.disk (IsSafeImage (meaning asked bytes) (restored w.folder.files)))

-- After a command that writes, is done or refused, the files after it are the only image of such a disk, but for such names.
abbrev pub RealWritersEnd : Type 0
RealWritersEnd =
    (asked : Option Command) (w v : Outside) (status : Status) → IsFolder w.folder → w.folder.records ≡ true → writes asked ≡ true → is_whole status ≡ true → Ran asked w v status
    → (run : RunsFirmlyOn (ending_of status) w.folder.disk v.folder.disk) × (bytes : List ℕ) × AreBytes w.input.left bytes
    × Within (now_by run.calls w.folder.disk) (LosesLoose w.folder.disk.now (after (meaning asked bytes) (restored w.folder.files)))

-- From a start all of whose files are firm such a disk is the same as the other; where the run is done all files are firm; and each image of it since the start is sound where each one at the start was.
abbrev pub FirmDisksStaySound : Type 0
FirmDisksStaySound =
    (asked : Option Command) (w v : Outside) (status : Status) → IsFolder w.folder → w.folder.records ≡ true → AllFirm w.folder.disk.now → Ran asked w v status
    → (run : RunsFirmlyOn (ending_of status) w.folder.disk v.folder.disk) × (v.folder.disk ≡ real_by run.calls w.folder.disk) × AtDone (ending_of status) (AllFirm v.folder.disk.now)
    × (Within w.folder.disk.now IsSound → (image : View) → Since (real_by run.calls w.folder.disk) (clock w.folder.disk) image → IsSound image)

-- what is read after a run over a folder that tells its files alone is sound, and stands for the files before or after
abbrev pub RunsRead : Type 0
RunsRead =
    (asked : Option Command) (w v : Outside) (status : Status) → w.folder.tells ≡ true → IsSound (get w.folder.files) → Ran asked w v status
    → (bytes : List ℕ) × AreBytes w.input.left bytes × IsSafeImage (meaning asked bytes) (restored w.folder.files) (get v.folder.files)

-- a command changes at most one name's original
abbrev pub OthersKeepOriginals : Type 0
OthersKeepOriginals = (asked : Option Command) (bytes : List ℕ) (before : Files) → KeepsOriginals (changed_name asked) (get before) (after (meaning asked bytes) before)

-- ---- what prelinking everything gives

-- after `-a` is done over a folder that reads as a sound one each image has the files from scratch,
abbrev pub ImagesAreFromScratch : Type 0
ImagesAreFromScratch =
    (p : Prelinking) (detail : Detail) (w v : Outside) → IsFolder w.folder → w.folder.records ≡ true → IsSound (get w.folder.files) → Ran (Some (All p detail)) w v statuses.Done → Within v.folder.disk.now (IsFromScratch (restored w.folder.files) p)

-- and so have the files that are read, where the folder tells its files alone
abbrev pub FilesAreFromScratch : Type 0
FilesAreFromScratch =
    (p : Prelinking) (detail : Detail) (w v : Outside) → w.folder.tells ≡ true → IsSound (get w.folder.files) → Ran (Some (All p detail)) w v statuses.Done → IsFromScratch (restored w.folder.files) p (get v.folder.files)

-- ---- stamps

-- where no stamp is past the last one of the cache, in the files that each image at the start stands for, none is in those that an image since then stands for
abbrev pub EveryImageStandsPastAll : Type 0
EveryImageStandsPastAll =
    (asked : Option Command) (w v : Outside) (status : Status) → IsFolder w.folder → w.folder.records ≡ true → IsSound (get w.folder.files) → Within w.folder.disk.now StandsPastAll → Ran asked w v status
    → (image : View) → Since v.folder.disk (clock w.folder.disk) image → StandsPastAll image

-- where none is in the files that are read, a run only looked, or none is in those that an image of a moment after its start stands for,
abbrev pub RunsLeavePastAll : Type 0
RunsLeavePastAll =
    (asked : Option Command) (w v : Outside) (status : Status) → IsFolder w.folder → w.folder.records ≡ true → IsSound (get w.folder.files) → IsPastAll (get (restored w.folder.files)) → Ran asked w v status → LeavesPastAll w.folder v.folder

-- nor in an image itself, after a command that writes, is done or refused
abbrev pub WritersEndPastAll : Type 0
WritersEndPastAll =
    (asked : Option Command) (w v : Outside) (status : Status) → IsFolder w.folder → w.folder.records ≡ true → IsSound (get w.folder.files) → IsPastAll (get (restored w.folder.files)) → writes asked ≡ true → is_whole status ≡ true → Ran asked w v status
    → Within v.folder.disk.now IsPastAll

-- the same of the files that are read after a run over a folder that tells its files alone
abbrev pub FilesStandPastAll : Type 0
FilesStandPastAll =
    (asked : Option Command) (w v : Outside) (status : Status) → w.folder.tells ≡ true → IsSound (get w.folder.files) → IsPastAll (get (restored w.folder.files)) → Ran asked w v status → StandsPastAll (get v.folder.files)

abbrev pub WrittenArePastAll : Type 0
WrittenArePastAll =
    (asked : Option Command) (w v : Outside) (status : Status) → w.folder.tells ≡ true → IsSound (get w.folder.files) → IsPastAll (get (restored w.folder.files)) → writes asked ≡ true → is_whole status ≡ true → Ran asked w v status → IsPastAll (get v.folder.files)

-- ---- folders whoever wrote them

-- one without a journal is sound where `-y` answers Done for each name that matches and for each member of its walk
abbrev pub VerifiedAreSound : Type 0
VerifiedAreSound =
    (files : Files) → get files journal ≡ None
    → ((n m : Name) → matches (format skip_causes) (named (get files)) n ≡ true → has (members (format skip_causes) (named (get files)) n) m ≡ true → (answer (Some (Verify m)) files []).status ≡ statuses.Done)
    → IsSound (get files)

-- ---- loads

-- over a sound folder `--load` answers as if it linked the originals at the same places
abbrev pub SoundLoadsAreOrdinary : Type 0
SoundLoadsAreOrdinary =
    (files : Files) (input name : List ℕ) (busy : Option Range) (policy : Policy) → IsSound (get files) → answer (Some (Load name busy policy)) files input ≡ ordinary_answer skip_causes policy busy files name

-- and where no stamp is past the last one of its cache `--weave` answers as if each loader that has finished linked the originals of the files that it saw
abbrev pub SoundWeavesAreOrdinary : Type 0
SoundWeavesAreOrdinary = (files : Files) (input : List ℕ) → IsSound (get files) → IsPastAll (get files) → answer (Some Weave) files input ≡ text_answer (weaves_from linked_from input files)
