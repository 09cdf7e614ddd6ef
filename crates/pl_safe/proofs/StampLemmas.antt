-- No stamp comes past the last one of the cache.
use Rattle.std.proofs.Common.{◌≡◌, ℕ, true, false, List, Option, Result, Ok, Err, refl, sym, subst, inl, inr, ⊎_elim, ◌∙◌}
use Rattle.std.specs.Prelude.{◌⊎◌}
use Rattle.std.specs.FinMap.{get}
use Rattle.std.proofs.lemmas.Bool.{false≢true, true≢false}
use Rattle.pl_base.specs.Files.{Files}
use Rattle.pl_folder.specs.Disk.{View, read}
use Rattle.pl_folder.specs.Seen.{Ending}
use Rattle.pl_folder.specs.Since.{Within}
use Rattle.pl_folder.proofs.ImageLaws.{read_image}
use Rattle.pl_journal.specs.Meaning.{Same, applied}
use Rattle.pl_journal.specs.Rows.{recovered}
use Rattle.pl_journal.specs.declared.change.Change.{Change}
use Rattle.pl_journal.proofs.Moments.{since_start, weaker}
use Rattle.pl_change.specs.Commands.{CommandsFiles, LeavesFiles, Made, MakesFiles, Meaning, Refused}
use Rattle.pl_change.specs.Restored.{restored}
use Rattle.pl_change.proofs.RestoredLemmas.{restored_before}
use Rattle.pl_cli.specs.Outside.{Outside}
use Rattle.pl_cli.specs.Endings.{ending_of}
use Rattle.pl_cli.specs.Ran.{Ran}
use Rattle.pl_cli.specs.Writes.{WritesFiles}
use Rattle.pl_cli.specs.Cause.{Cause}
use Rattle.pl_cli.specs.declared.command.Command.{Command}
use Rattle.pl_words.specs.declared.status.Status.{Status}
use Rattle.pl_words.specs.declared.status.Status.TheVariants as statuses
use Rattle.law_folder.specs.Safe.{IsSafeImage, after, changed}
use Rattle.law_folder.specs.Sound.{IsSound, KeepsTheRule}
use Rattle.law_folder.specs.Steps.{IsPastAll, MakesStep}
use Rattle.law_folder.proofs.CommandLemmas.{is_before, looked}
use Rattle.law_folder.proofs.SoundLemmas.{before_keeps}
use Rattle.law_folder.proofs.StepLemmas.{steps_past}
use Rattle.pl_safe.specs.Laws.{EveryImageStandsPastAll, FilesStandPastAll, RunsLeavePastAll, WritersEndPastAll, WrittenArePastAll}
use Rattle.pl_safe.specs.Runs.{StandsPastAll, is_whole, meaning, writes}
use Rattle.pl_safe.proofs.RunLemmas.{IsReader, IsWriter, kind, runs_leave, runs_read, writers_end}

past_along : (v w : View) → Same v w → IsPastAll w → IsPastAll v
past_along v w same past = let path : w ≡ v = λ i n. sym (same n) i in subst IsPastAll path past

-- ---- what a command makes

after_steps : (meant : Meaning Cause) → MakesStep meant → (before : Files) → KeepsTheRule (get before) → IsPastAll (get before) → IsPastAll (after meant before)
after_steps meant steps before rule past = by (meant before) refl
  where
    by : (r : Result (List Change) Cause) → meant before ≡ r → IsPastAll (changed r (get before))
    by (Ok rows) is = steps_past meant steps before rows rule past is
    by (Err cause) is = past

after_kind : (asked : Option Command) (bytes : List ℕ) (before : Files) → KeepsTheRule (get before) → IsPastAll (get before) → IsReader asked ⊎ IsWriter asked → IsPastAll (after (meaning asked bytes) before)
after_kind asked bytes before rule past (inl reader) = subst (λ (m : Meaning Cause). IsPastAll (after m before)) (sym (reader.means bytes)) past
after_kind asked bytes before rule past (inr writer) = after_steps (meaning asked bytes) (writer.steps bytes) before rule past

-- ---- images

module _ (asked : Option Command) (bytes : List ℕ) (before : Files) (rule : KeepsTheRule (get before)) (past : IsPastAll (get before)) where
  after_past : IsPastAll (after (meaning asked bytes) before)
  after_past = after_kind asked bytes before rule past (kind asked)

  image_past : (v : View) → IsSafeImage (meaning asked bytes) before v → StandsPastAll v
  image_past v image = ⊎_elim
      (λ same. past_along (recovered v) (get before) same past)
      (λ same. past_along (recovered v) (after (meaning asked bytes) before) same after_past)
      image.stands

abbrev was : Outside → Files
was w = restored w.folder.files

keeps_rule : (w : Outside) → IsSound (get w.folder.files) → KeepsTheRule (get (was w))
keeps_rule w sound = before_keeps (get w.folder.files) (was w) sound (restored_before w.folder.files)

pub runs_past : RunsLeavePastAll
runs_past asked w v status folder told sound past ran =
    let l = runs_leave asked w v status folder told sound ran in
    ⊎_elim inl (λ keeps. inr (weaker w.folder.disk v.folder.disk (IsSafeImage (meaning asked l.0) (was w)) StandsPastAll (image_past asked l.0 (was w) (keeps_rule w sound) past) keeps)) l.2

-- what the files at the start stand for
start_past : (w : Outside) → Same (get (was w)) (recovered (read w.folder.disk.now)) → Within w.folder.disk.now StandsPastAll → IsPastAll (get (was w))
start_past w same start = past_along (get (was w)) (recovered (read w.folder.disk.now)) same (start (read w.folder.disk.now) (read_image w.folder.disk.now))

pub every_past : EveryImageStandsPastAll
every_past asked w v status folder told sound start ran image had =
    ⊎_elim
    (λ looks. start image (looked w.folder.disk v.folder.disk looks image had))
    (λ keeps. ⊎_elim (λ was. start image was) (λ past. past) (since_start w.folder.disk v.folder.disk StandsPastAll keeps image had))
    (runs_past asked w v status folder told sound (start_past w (is_before w.folder folder told) start) ran)

pub writers_past : WritersEndPastAll
writers_past asked w v status folder told sound past one whole ran image is =
    let ends = writers_end asked w v status folder told one whole ran in
    let made : View = after (meaning asked ends.0) (was w) in
    past_along image made (λ n. sym (ends.2 image is n)) (after_past asked ends.0 (was w) (keeps_rule w sound) past)

-- ---- files

pub files_past : FilesStandPastAll
files_past asked w v status told sound past ran =
    let r = runs_read asked w v status told sound ran in
    image_past asked r.0 (was w) (keeps_rule w sound) past (get v.folder.files) r.2

module _ (meant : Meaning Cause) (steps : MakesStep meant) (old new : Files) (rule : KeepsTheRule (get (restored old))) (past : IsPastAll (get (restored old))) where
  made_past : (rows : List Change) → MakesFiles rows (restored old) (get new) meant → IsPastAll (get new)
  made_past rows makes = past_along (get new) (applied rows (get (restored old))) makes.files (steps_past meant steps (restored old) rows rule past makes.means)

  left_past : (cause : Cause) → LeavesFiles cause (restored old) new meant → IsPastAll (get new)
  left_past cause leaves = subst (λ (files : Files). IsPastAll (get files)) (sym leaves.files) past

  all_made_past : (e : Ending) → CommandsFiles meant Made e old new → IsPastAll (get new)
  all_made_past e call = let m = call (restored old) (restored_before old) in made_past m.0 m.1

  refused_past : (cause : Cause) (e : Ending) → CommandsFiles meant (Refused cause) e old new → IsPastAll (get new)
  refused_past cause e call = left_past cause (call (restored old) (restored_before old))

  written_past : (status : Status) (e : Ending) → is_whole status ≡ true → WritesFiles meant status e old new → IsPastAll (get new)
  written_past statuses.Done e whole call = all_made_past e call
  written_past statuses.Differs e whole call = absurd call
  written_past statuses.Usage e whole call = absurd call
  written_past statuses.Refused e whole call = refused_past call.0 e call.1
  written_past statuses.ReadFault e whole call = absurd (false≢true whole)
  written_past statuses.WriteFault e whole call = ⊎_elim (all_made_past e) (λ refused. refused_past refused.0 e refused.1) call
  written_past statuses.DiskFault e whole call = absurd (false≢true whole)
  written_past statuses.NoMemory e whole call = absurd (false≢true whole)

written_by : (asked : Option Command) (w v : Outside) (status : Status) → w.folder.tells ≡ true → IsSound (get w.folder.files) → IsPastAll (get (was w)) → writes asked ≡ true → is_whole status ≡ true → Ran asked w v status → IsReader asked ⊎ IsWriter asked
    → IsPastAll (get v.folder.files)
written_by asked w v status told sound past one whole ran (inl reader) = absurd (true≢false (sym one ∙ reader.reads))
written_by asked w v status told sound past one whole ran (inr writer) =
    let m = writer.read w.folder.files w.input.left status (ending_of status) w.folder.files v.folder.files (ran.folder.files told) in
    written_past (meaning asked m.0) (writer.steps m.0) w.folder.files v.folder.files (keeps_rule w sound) past status (ending_of status) whole m.2

pub written_are_past : WrittenArePastAll
written_are_past asked w v status told sound past one whole ran = written_by asked w v status told sound past one whole ran (kind asked)
