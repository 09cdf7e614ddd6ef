-- What a run leaves of the disk.
use Rattle.std.proofs.Common.{◌∙◌, ◌≡◌, ℕ, suc, ◌≤◌, true, false, List, [], ◌∷◌, length, Option, Some, None, Result, Ok, Err, refl, sym, ap, subst, inl, inr, ⊎_elim, arith}
use Rattle.std.specs.Prelude.{◌⊎◌}
use Rattle.std.specs.FinMap.{get}
use Rattle.std.proofs.lemmas.Bool.{false≢true, true≢false}
use Rattle.pl_base.specs.Files.{Files}
use Rattle.pl_folder.specs.Disk.{Disk, IsCrashImage, Name, State, View, clock, read}
use Rattle.pl_folder.specs.Calls.{Calls}
use Rattle.pl_folder.specs.Effects.{Effect, WaitsFor}
use Rattle.pl_folder.specs.Seen.{Broken, Done, Ending, IsFolder, Seen, Undone}
use Rattle.pl_folder.specs.Since.{Keeps, Since, Within}
use Rattle.pl_folder.proofs.ImageLaws.{read_image}
use Rattle.pl_journal.specs.Leaves.{Looks}
use Rattle.pl_journal.specs.Meaning.{Same}
use Rattle.pl_journal.specs.declared.change.Change.{Change}
use Rattle.pl_journal.specs.RealDisk.{AreAlike, LosesLoose, RunsFirmlyOn, real_by}
use Rattle.pl_journal.proofs.Moments.{after_start, since_start, starts, weaker}
use Rattle.pl_journal.proofs.RealLemmas.{firm_same, on_looks, real_images, run_beside}
use Rattle.pl_journal.proofs.RecoverLemmas.{waited_look}
use Rattle.pl_change.specs.Commands.{CommandsFiles, Failed, IsBefore, Lacked, Made, Meaning, Outcome, Refused}
use Rattle.pl_change.specs.Restored.{restored}
use Rattle.pl_batch.specs.declared.run.Run.TheVariants as runs
use Rattle.pl_change.proofs.RestoredLemmas.{restored_before}
use Rattle.pl_cli.specs.Came.{Makes}
use Rattle.pl_cli.specs.Ran.{Ran}
use Rattle.pl_cli.specs.Load.{loaded_object}
use Rattle.pl_cli.specs.Looks.{takes}
use Rattle.pl_cli.specs.Order.{object_in}
use Rattle.pl_cli.specs.Outside.{Outside}
use Rattle.pl_cli.specs.Endings.{ending_of}
use Rattle.pl_cli.specs.Words.{bytes_of}
use Rattle.pl_cli.specs.Writes.{AreBytes, WritesDisk, WritesFiles}
use Rattle.pl_cli.specs.Cause.{Cause}
use Rattle.pl_cli.specs.declared.command.Command.{Command}
use Rattle.pl_cli.specs.declared.command.Command.TheVariants.{Load, All, Preview, UndoAll, Undo, Verify, Store, Remove, Fix, Unfix, Print, Order, Demo, Weave}
use Rattle.pl_words.specs.declared.status.Status.{Status}
use Rattle.pl_words.specs.declared.status.Status.TheVariants as statuses
use Rattle.law_folder.specs.Safe.{IsSafe, IsSafeImage, after}
use Rattle.law_folder.specs.Sound.{IsSound}
use Rattle.law_folder.specs.Steps.{MakesStep}
use Rattle.law_folder.proofs.CommandLemmas.{commands_read, disk_ends, disk_leaves, is_before, looked, reads_path, reads_sound}
use Rattle.pl_safe.specs.Laws.{EveryRunIsSafe, FirmDisksStaySound, ImagesOfRealDisks, ReadersLook, RealImagesStand, RealWritersEnd, OthersKeepOriginals, RunsLeave, RunsEndSound, RunsOnRealDisks, RunsRead, WritersEnd}
use Rattle.pl_safe.specs.Runs.{KeepsOriginals, LeavesSound, RealKeeps, changed_name, is_whole, meaning, nothing, now_by, writes}
use Rattle.pl_safe.proofs.MeaningLemmas.{fix_keeps, fix_safe, fix_steps, loosen_keeps, loosen_safe, loosen_steps, prelink_keeps, prelink_safe, prelink_steps, remove_keeps, remove_safe, remove_steps, store_keeps, store_safe, store_steps, undo_all_keeps, undo_keeps, undo_safe, undo_steps}

-- ---- calls that change nothing

waits_look : (n : ℕ) (e : Ending) (a b : Disk) → WaitsFor n e a b → Looks a b
waits_look n Done a b is = subst (Looks a) (sym is) (waited_look n a)
waits_look n Broken a b is = subst (Looks a) (sym is.2) (waited_look is.0 a)
waits_look n Undone a b is = subst (Looks a) (sym is.2) (waited_look is.0 a)

-- ---- a writing command

-- one that is refused whatever the files are
none_safe : IsSafe {C = Unit {0}} (λ files. Err tt)
none_safe = record {
  fits = λ before rows is. absurd (never rows is);
  ready = λ before rows is. absurd (never rows is);
  safe = λ before rows is rule. absurd (never rows is);
}
  where
    never : (rows : List Change) → ◌≡◌ {A = Result (List Change) (Unit {0})} (Err tt) (Ok rows) → ⊥
    never rows is = cc

-- what its recovery leaves is what any command may leave
recovered_safe : (meant : Meaning Cause) (before : Files) (v : View) → IsSafeImage {C = Unit {0}} (λ files. Err tt) before v → IsSafeImage meant before v
recovered_safe meant before v image = record { sound = image.sound; stands = inl (⊎_elim (λ same. same) (λ same. same) image.stands) }

module _ (meant : Meaning Cause) (safe : IsSafe meant) (a b : Disk) (before : Files) (sound : IsSound (read a.now)) (is : IsBefore (read a.now) before) where
  written : (status : Status) (e : Ending) → WritesDisk meant status e a b → Looks a b ⊎ Keeps a b (IsSafeImage meant before)
  written statuses.Done e call = inr (disk_leaves meant a b before safe sound is Made e call)
  written statuses.Differs e call = absurd call
  written statuses.Usage e call = absurd call
  written statuses.Refused e call = inr (disk_leaves meant a b before safe sound is (Refused call.0) e call.1)
  written statuses.ReadFault e call =
      inr (weaker a b (IsSafeImage {C = Unit {0}} (λ files. Err tt) before) (IsSafeImage meant before) (recovered_safe meant before) (disk_leaves (λ files. Err tt) a b before none_safe sound is (Refused tt) e call))
  written statuses.WriteFault e call = ⊎_elim
      (λ done. inr (disk_leaves meant a b before safe sound is Made e done))
      (λ refused. inr (disk_leaves meant a b before safe sound is (Refused refused.0) e refused.1))
      call
  written statuses.DiskFault e call = disk_leaves meant a b before safe sound is Failed e call
  written statuses.NoMemory e call = disk_leaves meant a b before safe sound is Lacked e call

ended : (meant : Meaning Cause) (a b : Disk) (before : Files) → IsBefore (read a.now) before → (status : Status) (e : Ending) → is_whole status ≡ true → WritesDisk meant status e a b → Within b.now (Same (after meant before))
ended meant a b before is statuses.Done e whole call = disk_ends meant a b before is Made e call
ended meant a b before is statuses.Differs e whole call = absurd call
ended meant a b before is statuses.Usage e whole call = absurd call
ended meant a b before is statuses.Refused e whole call = disk_ends meant a b before is (Refused call.0) e call.1
ended meant a b before is statuses.ReadFault e whole call = absurd (false≢true whole)
ended meant a b before is statuses.WriteFault e whole call = ⊎_elim (λ done. disk_ends meant a b before is Made e done) (λ refused. disk_ends meant a b before is (Refused refused.0) e refused.1) call
ended meant a b before is statuses.DiskFault e whole call = absurd (false≢true whole)
ended meant a b before is statuses.NoMemory e whole call = absurd (false≢true whole)

-- ---- on a disk whose settle makes names last and no file's bytes

firmly_written : (meant : Meaning Cause) (a b : Disk) (status : Status) (e : Ending) → WritesDisk meant status e a b → RunsFirmlyOn e a b
firmly_written meant a b statuses.Done e call = call.1
firmly_written meant a b statuses.Differs e call = absurd call
firmly_written meant a b statuses.Usage e call = absurd call
firmly_written meant a b statuses.Refused e call = call.1.1
firmly_written meant a b statuses.ReadFault e call = call.1
firmly_written meant a b statuses.WriteFault e call = ⊎_elim (λ done. done.1) (λ refused. refused.1.1) call
firmly_written meant a b statuses.DiskFault e call = call.1
firmly_written meant a b statuses.NoMemory e call = call.1

-- ---- what is read after a writing command

abbrev unrecorded : Seen → Seen
unrecorded a = record a { records = false }

module _ (effect : Effect) (e : Ending) (a b : Seen) (calls : Calls e effect a b) (told : a.tells ≡ true) (sound : IsSound (get a.files)) where
  read_as : {C : Type 0} (meant : Meaning C) (o : Outcome C) → IsSafe meant → CommandsFiles meant o e a.files b.files → IsSafeImage meant (restored a.files) (get b.files)
  read_as meant o safe call = commands_read meant o e (unrecorded a) (unrecorded b) safe told sound (record {
    tells = calls.tells;
    records = refl;
    referent = calls.referent;
    files = λ _. call;
    disk = λ recorded. absurd (false≢true recorded);
    count = calls.count;
  })

  read_written : (meant : Meaning Cause) → IsSafe meant → (status : Status) → WritesFiles meant status e a.files b.files → IsSafeImage meant (restored a.files) (get b.files)
  read_written meant safe statuses.Done call = read_as meant Made safe call
  read_written meant safe statuses.Differs call = absurd call
  read_written meant safe statuses.Usage call = absurd call
  read_written meant safe statuses.Refused call = read_as meant (Refused call.0) safe call.1
  read_written meant safe statuses.ReadFault call = recovered_safe meant (restored a.files) (get b.files) (read_as (λ files. Err tt) (Refused tt) none_safe call)
  read_written meant safe statuses.WriteFault call = ⊎_elim (λ done. read_as meant Made safe done) (λ refused. read_as meant (Refused refused.0) safe refused.1) call
  read_written meant safe statuses.DiskFault call = read_as meant Failed safe call
  read_written meant safe statuses.NoMemory call = read_as meant Lacked safe call

  read_still : (meant : Meaning Cause) → b.files ≡ a.files → IsSafeImage meant (restored a.files) (get b.files)
  read_still meant same =
      subst (λ (files : Files). IsSafeImage meant (restored a.files) (get files)) (sym same) (record { sound = sound; stands = inl (λ n. sym (restored_before a.files n)) })

-- ---- commands

-- one that only reads: it has no changes, and its calls change nothing
pub record IsReader (asked : Option Command) : Type 0 where
  pub reads : writes asked ≡ false
  pub means : (bytes : List ℕ) → meaning asked bytes ≡ nothing
  pub keeps : changed_name asked ≡ None
  pub stays : (files : Files) (input : Option (List ℕ)) (status : Status) (e : Ending) (a b : Files) → (Makes asked files input status).files e a b → b ≡ a
  pub looks : (files : Files) (input : Option (List ℕ)) (status : Status) (e : Ending) (a b : Disk) → (Makes asked files input status).disk e a b → Looks a b

-- one that writes: its changes are safe, it makes them, and it keeps other originals
pub record IsWriter (asked : Option Command) : Type 0 where
  pub writes : writes asked ≡ true
  pub safe : (bytes : List ℕ) → IsSafe (meaning asked bytes)
  pub steps : (bytes : List ℕ) → MakesStep (meaning asked bytes)
  pub keeps : (bytes : List ℕ) (before : Files) → KeepsOriginals (changed_name asked) (get before) (after (meaning asked bytes) before)
  pub made : (files : Files) (input : Option (List ℕ)) (status : Status) (e : Ending) (a b : Disk) → (Makes asked files input status).disk e a b
      → (bytes : List ℕ) × AreBytes input bytes × WritesDisk (meaning asked bytes) status e a b
  pub read : (files : Files) (input : Option (List ℕ)) (status : Status) (e : Ending) (a b : Files) → (Makes asked files input status).files e a b
      → (bytes : List ℕ) × AreBytes input bytes × WritesFiles (meaning asked bytes) status e a b

-- each is the one or the other
pub kind : (asked : Option Command) → IsReader asked ⊎ IsWriter asked
kind None = inl (record { reads = refl; means = λ bytes. refl; keeps = refl; stays = λ files input status e a b same. same; looks = λ files input status e a b made. waits_look 0 e a b made })
kind (Some (Load name busy policy)) = inl (record { reads = refl; means = λ bytes. refl; keeps = refl; stays = λ files input status e a b same. same; looks = λ files input status e a b made. waits_look (takes (loaded_object policy files name) name) e a b made })
kind (Some (All asked detail)) = inr (record { writes = refl; safe = λ bytes. prelink_safe asked; steps = λ bytes. prelink_steps asked; keeps = λ bytes before. prelink_keeps asked before; made = λ files input status e a b made. made; read = λ files input status e a b made. made })
kind (Some (Preview asked detail)) = inl (record { reads = refl; means = λ bytes. refl; keeps = refl; stays = λ files input status e a b same. same; looks = λ files input status e a b made. made })
kind (Some UndoAll) = inr (record { writes = refl; safe = λ bytes. undo_safe runs.UndoAll; steps = λ bytes. undo_steps runs.UndoAll; keeps = λ bytes before. undo_all_keeps before; made = λ files input status e a b made. made; read = λ files input status e a b made. made })
kind (Some (Undo names)) = inr (record { writes = refl; safe = λ bytes. undo_safe (runs.Undo names); steps = λ bytes. undo_steps (runs.Undo names); keeps = λ bytes before. undo_keeps names before; made = λ files input status e a b made. made; read = λ files input status e a b made. made })
kind (Some (Store name content)) = inr (record { writes = refl; safe = store_safe name content; steps = store_steps name content; keeps = store_keeps name content; made = λ files input status e a b made. made; read = λ files input status e a b made. made })
kind (Some (Remove name)) = inr (record { writes = refl; safe = λ bytes. remove_safe name; steps = λ bytes. remove_steps name; keeps = λ bytes before. remove_keeps name before; made = λ files input status e a b made. made; read = λ files input status e a b made. made })
kind (Some (Fix name policy)) = inr (record { writes = refl; safe = λ bytes. fix_safe policy name; steps = λ bytes. fix_steps policy name; keeps = λ bytes before. fix_keeps policy name before; made = λ files input status e a b made. made; read = λ files input status e a b made. made })
kind (Some (Unfix name)) = inr (record { writes = refl; safe = λ bytes. loosen_safe name; steps = λ bytes. loosen_steps name; keeps = λ bytes before. loosen_keeps name before; made = λ files input status e a b made. made; read = λ files input status e a b made. made })
kind (Some (Verify name)) = inl (record { reads = refl; means = λ bytes. refl; keeps = refl; stays = λ files input status e a b same. same; looks = λ files input status e a b made. made })
kind (Some Print) = inl (record { reads = refl; means = λ bytes. refl; keeps = refl; stays = λ files input status e a b same. same; looks = λ files input status e a b made. waits_look 1 e a b made })
kind (Some Weave) = inl (record { reads = refl; means = λ bytes. refl; keeps = refl; stays = λ files input status e a b same. same; looks = λ files input status e a b made. made })
kind (Some (Order name detail)) = inl (record { reads = refl; means = λ bytes. refl; keeps = refl; stays = λ files input status e a b same. same; looks = λ files input status e a b made. waits_look (takes (object_in files) name) e a b made })
kind (Some (Demo number)) = inl (record { reads = refl; means = λ bytes. refl; keeps = refl; stays = λ files input status e a b same. same; looks = λ files input status e a b made. waits_look 0 e a b made })

-- ---- a run

module _ (asked : Option Command) (w v : Outside) (status : Status) (told : w.folder.records ≡ true) (ran : Ran asked w v status) where
  abbrev a : Disk
  a = w.folder.disk

  abbrev b : Disk
  b = v.folder.disk

  abbrev before : Files
  before = restored w.folder.files

  reader_looks : IsReader asked → Looks a b
  reader_looks reader = reader.looks w.folder.files w.input.left status (ending_of status) a b (ran.folder.disk told)

  abbrev LeavesBy : Type 0
  LeavesBy = (bytes : List ℕ) × AreBytes w.input.left bytes × LeavesSound (meaning asked bytes) w.folder v.folder

  leaves : IsFolder w.folder → IsSound (get w.folder.files) → IsReader asked ⊎ IsWriter asked → LeavesBy
  leaves folder sound (inl reader) = (bytes_of w.input.left, λ told. refl, inl (reader_looks reader))
  leaves folder sound (inr writer) =
      let m = writer.made w.folder.files w.input.left status (ending_of status) a b (ran.folder.disk told) in
      (m.0, m.1, written (meaning asked m.0) (writer.safe m.0) a b before (reads_sound w.folder folder told sound) (is_before w.folder folder told) status (ending_of status) m.2)

  looks_by : writes asked ≡ false → IsReader asked ⊎ IsWriter asked → Looks a b
  looks_by none (inl reader) = reader_looks reader
  looks_by none (inr writer) = absurd (true≢false (sym writer.writes ∙ none))

  abbrev EndsBy : Type 0
  EndsBy = (bytes : List ℕ) × AreBytes w.input.left bytes × Within b.now (Same (after (meaning asked bytes) before))

  ends_by : IsFolder w.folder → writes asked ≡ true → is_whole status ≡ true → IsReader asked ⊎ IsWriter asked → EndsBy
  ends_by folder one whole (inl reader) = absurd (true≢false (sym one ∙ reader.reads))
  ends_by folder one whole (inr writer) =
      let m = writer.made w.folder.files w.input.left status (ending_of status) a b (ran.folder.disk told) in
      (m.0, m.1, ended (meaning asked m.0) a b before (is_before w.folder folder told) status (ending_of status) whole m.2)

  firmly_by : IsReader asked ⊎ IsWriter asked → RunsFirmlyOn (ending_of status) a b
  firmly_by (inl reader) = on_looks (ending_of status) (reader_looks reader)
  firmly_by (inr writer) =
      let m = writer.made w.folder.files w.input.left status (ending_of status) a b (ran.folder.disk told) in
      firmly_written (meaning asked m.0) a b status (ending_of status) m.2

pub runs_leave : RunsLeave
runs_leave asked w v status folder told sound ran = leaves asked w v status told ran folder sound (kind asked)

pub readers_look : ReadersLook
readers_look asked w v status told none ran = looks_by asked w v status told ran none (kind asked)

pub writers_end : WritersEnd
writers_end asked w v status folder told one whole ran = ends_by asked w v status told ran folder one whole (kind asked)

-- ---- what is read

read_by : (asked : Option Command) (w v : Outside) (status : Status) → w.folder.tells ≡ true → IsSound (get w.folder.files) → Ran asked w v status → IsReader asked ⊎ IsWriter asked
    → (bytes : List ℕ) × AreBytes w.input.left bytes × IsSafeImage (meaning asked bytes) (restored w.folder.files) (get v.folder.files)
read_by asked w v status told sound ran (inl reader) =
    let e : Ending = ending_of status in
    let effect : Effect = Makes asked w.folder.files w.input.left status in
    let same = reader.stays w.folder.files w.input.left status e w.folder.files v.folder.files (ran.folder.files told) in
    (bytes_of w.input.left, λ given. refl, read_still effect e w.folder v.folder ran.folder told sound (meaning asked (bytes_of w.input.left)) same)
read_by asked w v status told sound ran (inr writer) =
    let e : Ending = ending_of status in
    let effect : Effect = Makes asked w.folder.files w.input.left status in
    let m = writer.read w.folder.files w.input.left status e w.folder.files v.folder.files (ran.folder.files told) in
    (m.0, m.1, read_written effect e w.folder v.folder ran.folder told sound (meaning asked m.0) (writer.safe m.0) status m.2)

pub runs_read : RunsRead
runs_read asked w v status told sound ran = read_by asked w v status told sound ran (kind asked)

-- ---- every image

pub start_sound : (a : Seen) → IsFolder a → a.records ≡ true → Within a.disk.now IsSound → IsSound (get a.files)
start_sound a folder told start = subst IsSound (sym (reads_path a folder told)) (start (read a.disk.now) (read_image a.disk.now))

pub every_safe : EveryRunIsSafe
every_safe asked w v status folder told start ran image had =
    let l = runs_leave asked w v status folder told (start_sound w.folder folder told start) ran in
    ⊎_elim
    (λ looks. start image (looked w.folder.disk v.folder.disk looks image had))
    (λ keeps. ⊎_elim (λ was. start image was) (λ safe. safe.sound) (since_start w.folder.disk v.folder.disk (IsSafeImage (meaning asked l.0) (restored w.folder.files)) keeps image had))
    l.2

pub runs_sound : RunsEndSound
runs_sound asked w v status folder told start ran image is =
    let l = runs_leave asked w v status folder told (start_sound w.folder folder told start) ran in
    ⊎_elim (λ looks. start image (subst (λ s. IsCrashImage s image) looks.now is)) (λ keeps. (keeps.now image is).sound) l.2

-- ---- on a real disk

pub runs_on_real : RunsOnRealDisks
runs_on_real asked w v status told ran = firmly_by asked w v status told ran (kind asked)

pub images_of_real : ImagesOfRealDisks
images_of_real asked w v status folder told start ran =
    let run = runs_on_real asked w v status told ran in (
      run,
      λ image had.
          let it = real_images (ending_of status) w.folder.disk v.folder.disk run (clock w.folder.disk) image had in
          (it.0, every_safe asked w v status folder told start ran it.0 it.1, it.1, it.2),
    )

real_keeps : (e : Ending) (old new : Disk) (run : RunsFirmlyOn e old new) (P : View → Type 0) → Keeps old new P → RealKeeps run.calls old P
real_keeps e old new run P keeps t image lt had = let it = real_images e old new run t image had in (it.0, after_start old new P keeps t it.0 lt it.1, it.2)

pub real_images_stand : RealImagesStand
real_images_stand asked w v status folder told sound ran =
    let run = runs_on_real asked w v status told ran in
    let l = runs_leave asked w v status folder told sound ran in
    (run, l.0, l.1, ⊎_elim inl (λ keeps. inr (real_keeps (ending_of status) w.folder.disk v.folder.disk run (IsSafeImage (meaning asked l.0) (restored w.folder.files)) keeps)) l.2)

-- two disks that stay alike have the same clock
as_long : (start : State) (states reals : List State) → AreAlike start states reals → length states ≡ length reals
as_long start [] [] alike = refl
as_long start [] (r ∷ reals) alike = absurd alike
as_long start (s ∷ states) [] alike = absurd alike
as_long start (s ∷ states) (r ∷ reals) alike = ap suc (as_long start states reals alike.1)

-- an image of such a disk now is one of the other now, but for names that were loose at the start
real_now : (e : Ending) (old new : Disk) (run : RunsFirmlyOn e old new) (v : View) → IsCrashImage (now_by run.calls old) v → (image : View) × IsCrashImage new.now image × LosesLoose old.now image v
real_now e old new run v is =
    let real : Disk = real_by run.calls old in
    let long : clock new ≡ clock real = as_long old.now new.past real.past (run_beside e old new run).0.1 in
    let it = real_images e old new run (clock new) v (inl (subst (λ (t : ℕ). t ≤ clock real) (sym long) (omega arith), is)) in
    (it.0, ⊎_elim (λ image. image) (λ image. image) (since_start new new (IsCrashImage new.now) (starts new (IsCrashImage new.now) (λ w image. image)) it.0 it.1), it.2)

pub real_writers_end : RealWritersEnd
real_writers_end asked w v status folder told one whole ran =
    let run = runs_on_real asked w v status told ran in
    let m = writers_end asked w v status folder told one whole ran in (
      run,
      m.0,
      m.1,
      λ image is.
          let it = real_now (ending_of status) w.folder.disk v.folder.disk run image is in
          loses_same w.folder.disk.now (after (meaning asked m.0) (restored w.folder.files)) it.0 image (m.2 it.0 it.1) it.2,
    )
  where
    loses_same : (start : State) (files other image : View) → Same files other → LosesLoose start other image → LosesLoose start files image
    loses_same start files other image same loses n = ⊎_elim (λ is. inl (is ∙ sym (same n))) (λ lost. inr (lost.0, same n ∙ lost.1)) (loses n)

pub firm_disks_sound : FirmDisksStaySound
firm_disks_sound asked w v status folder told firm ran =
    let run = runs_on_real asked w v status told ran in
    let both = firm_same (ending_of status) w.folder.disk v.folder.disk run firm in
    (run, both.0, both.1, λ start image had. every_safe asked w v status folder told start ran image (subst (λ (d : Disk). Since d (clock w.folder.disk) image) (sym both.0) had))

-- ---- originals

keeps_by : (asked : Option Command) (bytes : List ℕ) (before : Files) → IsReader asked ⊎ IsWriter asked → KeepsOriginals (changed_name asked) (get before) (after (meaning asked bytes) before)
keeps_by asked bytes before (inl reader) =
    subst (λ (m : Meaning Cause). KeepsOriginals (changed_name asked) (get before) (after m before)) (sym (reader.means bytes))
    (subst (λ (n : Option Name). KeepsOriginals n (get before) (get before)) (sym reader.keeps) (λ n. refl))
keeps_by asked bytes before (inr writer) = writer.keeps bytes before

pub others_keep : OthersKeepOriginals
others_keep asked bytes before = keeps_by asked bytes before (kind asked)
