-- What `-a` leaves is what prelinking everything from scratch gives.
use Rattle.std.proofs.Common.{◌≡◌, List, Ok, sym, subst}
use Rattle.std.specs.FinMap.{get}
use Rattle.pl_base.specs.Files.{Files}
use Rattle.pl_base.proofs.AnswerLaws.{bind_ok}
use Rattle.pl_folder.specs.Disk.{View}
use Rattle.pl_journal.specs.Meaning.{applied}
use Rattle.pl_journal.specs.declared.change.Change.{Change}
use Rattle.pl_batch.specs.Changes.{changes_of}
use Rattle.pl_change.specs.Commands.{ready}
use Rattle.pl_change.specs.Restored.{restored}
use Rattle.pl_batch.specs.declared.prelinking.Prelinking.{Prelinking}
use Rattle.pl_batch.specs.declared.run.Run.TheVariants as runs
use Rattle.pl_change.proofs.RestoredLemmas.{restored_before}
use Rattle.pl_cli.specs.Writes.{prelinks}
use Rattle.law_folder.specs.Sound.{KeepsTheRule}
use Rattle.law_folder.proofs.CommandLemmas.{is_before}
use Rattle.law_folder.proofs.SoundLemmas.{before_keeps}
use Rattle.law_folder.specs.All.{HasNext}
use Rattle.law_folder.proofs.NextLemmas.{gives_next, gives_scratch}
use Rattle.pl_safe.specs.Laws.{FilesAreFromScratch, ImagesAreFromScratch}
use Rattle.pl_safe.specs.Runs.{IsFromScratch}
use Rattle.pl_safe.proofs.MeaningLemmas.{all_of}

changes_are : (before : Files) (p : Prelinking) (rows : List Change) → prelinks p before ≡ Ok rows → changes_of before (runs.All p) ≡ Ok rows
changes_are before p rows is = (bind_ok (ready before) (λ none. changes_of before (runs.All p)) rows (all_of p before rows is)).2

made_scratch : (before : Files) (p : Prelinking) (rows : List Change) → KeepsTheRule (get before) → prelinks p before ≡ Ok rows → IsFromScratch before p (applied rows (get before))
made_scratch before p rows rule is =
    let next : HasNext before p (applied rows (get before)) = gives_next before p rows (changes_are before p rows is) in
    record { next = next; each = λ n valid. gives_scratch before p (applied rows (get before)) next rule n valid }

scratch_along : (before : Files) (p : Prelinking) (made view : View) → view ≡ made → IsFromScratch before p made → IsFromScratch before p view
scratch_along before p made view same is = subst (IsFromScratch before p) (sym same) is

pub images_scratch : ImagesAreFromScratch
images_scratch p detail w v folder told sound ran image is =
    let before : Files = restored w.folder.files in
    let call = ran.folder.disk told in
    let m = call.2.0 before (is_before w.folder folder told) in
    let made : View = applied m.0 (get before) in
    let same : image ≡ made = λ i n. sym (m.1.settled.only image is n) i in
    scratch_along before p made image same (made_scratch before p m.0 (before_keeps (get w.folder.files) before sound (restored_before w.folder.files)) m.1.means)

pub files_scratch : FilesAreFromScratch
files_scratch p detail w v told sound ran =
    let before : Files = restored w.folder.files in
    let call = ran.folder.files told in
    let m = call.2 before (restored_before w.folder.files) in
    let made : View = applied m.0 (get before) in
    let same : get v.folder.files ≡ made = λ i n. m.1.files n i in
    scratch_along before p made (get v.folder.files) same (made_scratch before p m.0 (before_keeps (get w.folder.files) before sound (restored_before w.folder.files)) m.1.means)
