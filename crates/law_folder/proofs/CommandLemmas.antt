-- What a safe command leaves of a sound folder.
use Rattle.std.proofs.Common.{◌≡◌, ℕ, ◌≤◌, Bool, true, false, List, [], Option, Some, None, Result, Ok, Err, refl, sym, ap, subst, ◌∙◌, inl, inr, ⊎_elim, arith}
use Rattle.std.specs.Prelude.{◌∷◌, is_some, length}
use Rattle.std.specs.FinMap.{get}
use Rattle.std.proofs.lemmas.Bool.{cond-false, cond-true}
use Rattle.pl_base.specs.Files.{Files}
use Rattle.pl_folder.specs.Disk.{Disk, IsCrashImage, State, View, clock, read}
use Rattle.pl_folder.specs.Seen.{Ending, IsFolder, Seen}
use Rattle.pl_folder.specs.Since.{HadImage, Keeps, Since, Within}
use Rattle.pl_folder.proofs.ImageLaws.{read_image}
use Rattle.pl_journal.specs.Leaves.{Looks}
use Rattle.pl_journal.specs.Laws.{IsRecoverable}
use Rattle.pl_journal.specs.Meaning.{HasNoOwn, Same, StandsBetween, StandsFor, applied, rows_for}
use Rattle.pl_journal.specs.Names.{is_journal_name, journal}
use Rattle.pl_journal.specs.Parts.{journal_of}
use Rattle.pl_journal.specs.Rows.{all_done, clean, recovered, rows_in, rows_of}
use Rattle.pl_journal.specs.Spelling.{are_rows}
use Rattle.pl_journal.specs.declared.change.Change.{Change}
use Rattle.pl_journal.specs.declared.row.Row.{Row}
use Rattle.pl_journal.proofs.Done.{distinct_test, recovered_by}
use Rattle.pl_journal.proofs.GrammarLaws.{written_rows}
use Rattle.pl_journal.proofs.Meanings.{applied_no_own, recovered_no_own}
use Rattle.pl_journal.proofs.Moments.{since_start, weaker}
use Rattle.pl_change.specs.Commands.{CommandsDisk, CommandsFiles, CommandsOn, Failed, FailsFiles, IsBefore, Lacked, LeavesFiles, Made, MakesFiles, Meaning, OnTheWay, Outcome, Refused}
use Rattle.pl_change.specs.Restored.{restored}
use Rattle.pl_change.proofs.RestoredLemmas.{restored_before}
use Rattle.law_folder.specs.Laws.{CommandsEnd, CommandsLeave, CommandsRead, EveryImageIsSound}
use Rattle.law_folder.specs.Safe.{Ends, IsSafe, IsSafeImage, Leaves, after, changed}
use Rattle.law_folder.specs.Sound.{IsSound, KeepsTheRule}
use Rattle.law_folder.proofs.SoundLemmas.{before_keeps, before_path, between_sound, no_rows, recoveries_sound, run_safe}

-- ---- the files before and after

-- a folder's files are what its disk reads
pub reads_path : (a : Seen) → IsFolder a → a.records ≡ true → get a.files ≡ read a.disk.now
reads_path a folder told = λ i n. folder.reads told n i

pub is_before : (a : Seen) → IsFolder a → a.records ≡ true → IsBefore (read a.disk.now) (restored a.files)
is_before a folder told = subst (λ (v : View). IsBefore v (restored a.files)) (reads_path a folder told) (restored_before a.files)

pub reads_sound : (a : Seen) → IsFolder a → a.records ≡ true → IsSound (get a.files) → IsSound (read a.disk.now)
reads_sound a folder told sound = subst IsSound (reads_path a folder told) sound

after_made : {C : Type 0} (meant : Meaning C) (before : Files) (rows : List Change) → meant before ≡ Ok rows → after meant before ≡ applied rows (get before)
after_made {C = C} meant before rows means = ap (λ (r : Result (List Change) C). changed r (get before)) means

after_refused : {C : Type 0} (meant : Meaning C) (before : Files) (cause : C) → meant before ≡ Err cause → after meant before ≡ get before
after_refused {C = C} meant before cause means = ap (λ (r : Result (List Change) C). changed r (get before)) means

-- ---- images

module _ {C : Type 0} (meant : Meaning C) (old : View) (before : Files) (sound : IsSound old) (is : IsBefore old before) where
  -- one that stands for the folder stands for the files before
  stands_safe : (v : View) → StandsFor old v → IsSafeImage meant before v
  stands_safe v stands = record { sound = recoveries_sound old v sound stands; stands = inl (λ n. stands.all n ∙ sym (is n)) }

  module _ (safe : IsSafe meant) (rows : List Change) (means : meant before ≡ Ok rows) where
    between_safe : (v : View) → StandsBetween (recovered old) rows v → IsSafeImage meant before v
    between_safe v stands = record {
      sound = between_sound (recovered old) v rows (run_safe meant old before rows safe sound is means) stands;
      stands = ⊎_elim
          (λ same. inl (λ n. same n ∙ sym (is n)))
          (λ same. inr (subst (Same (recovered v)) (sym (ap (applied rows) (before_path old before is)) ∙ sym (after_made meant before rows means)) same))
          stands.all;
    }

    way_safe : (v : View) → OnTheWay old rows v → IsSafeImage meant before v
    way_safe v = ⊎_elim (stands_safe v) (between_safe v)

-- ---- moments

module _ {C : Type 0} (meant : Meaning C) (a b : Disk) (before : Files) (safe : IsSafe meant) (sound : IsSound (read a.now)) (is : IsBefore (read a.now) before) where
  abbrev P : View → Type 0
  P = IsSafeImage meant before

  keeps_standing : Keeps a b (StandsFor (read a.now)) → Keeps a b P
  keeps_standing keeps = weaker a b (StandsFor (read a.now)) P (stands_safe meant (read a.now) before sound is) keeps

  keeps_way : (rows : List Change) → meant before ≡ Ok rows → Keeps a b (OnTheWay (read a.now) rows) → Keeps a b P
  keeps_way rows means keeps = weaker a b (OnTheWay (read a.now) rows) P (way_safe meant (read a.now) before sound is safe rows means) keeps

  leaves_on : (o : Outcome C) → CommandsOn meant o a b → Leaves o P a b
  leaves_on Made call = let m = call before is in keeps_way m.0 m.1.means m.1.on_the_way
  leaves_on (Refused cause) call = keeps_standing (call before is).on_the_way
  leaves_on Failed (inl looks) = inl looks
  leaves_on Failed (inr (inl keeps)) = inr (keeps_standing keeps)
  leaves_on Failed (inr (inr breaks)) = let m = breaks before is in inr (keeps_way m.0 m.1.means m.1.on_the_way)
  leaves_on Lacked (inl looks) = inl looks
  leaves_on Lacked (inr keeps) = inr (keeps_standing keeps)

  pub disk_leaves : (o : Outcome C) (e : Ending) → CommandsDisk meant o e a b → Leaves o P a b
  disk_leaves o e call = leaves_on o call.0

pub commands_leave : {C : Type 0} → CommandsLeave C
commands_leave meant o e a b safe folder told sound call =
    disk_leaves meant a.disk b.disk (restored a.files) safe (reads_sound a folder told sound) (is_before a folder told) o e (call.disk told)

-- ---- every image

none_later : (past : List State) (t : ℕ) (v : View) → length past ≤ t → HadImage past t v → ⊥
none_later [] t v le had = had
none_later (s ∷ past) t v le (inl here) = let lt : t ≤ length past = here.0 in absurd (omega arith)
none_later (s ∷ past) t v le (inr there) = none_later past t v (omega arith) there

-- each image since the start of calls that only look is one of the start's
pub looked : (a b : Disk) → Looks a b → (v : View) → Since b (clock a) v → IsCrashImage a.now v
looked a b looks v had = ⊎_elim
    (λ was. ⊎_elim (λ here. here.1) (λ there. absurd (none_later a.past (length a.past) v (omega arith) there)) was)
    (λ image. image)
    (looks.each (clock a) v had)

module _ {C : Type 0} (meant : Meaning C) (a b : Disk) (before : Files) (start : Within a.now IsSound) (v : View) (had : Since b (clock a) v) where
  kept_sound : Keeps a b (IsSafeImage meant before) → IsSound v
  kept_sound keeps = ⊎_elim (λ image. start v image) (λ image. image.sound) (since_start a b (IsSafeImage meant before) keeps v had)

  looked_sound : Looks a b → IsSound v
  looked_sound looks = start v (looked a b looks v had)

  each_sound : (o : Outcome C) → Leaves o (IsSafeImage meant before) a b → IsSound v
  each_sound Made leaves = kept_sound leaves
  each_sound (Refused cause) leaves = kept_sound leaves
  each_sound Failed leaves = ⊎_elim looked_sound kept_sound leaves
  each_sound Lacked leaves = ⊎_elim looked_sound kept_sound leaves

pub every_sound : {C : Type 0} → EveryImageIsSound C
every_sound meant o e a b safe folder told start call v had =
    let sound : IsSound (get a.files) = subst IsSound (sym (reads_path a folder told)) (start (read a.disk.now) (read_image a.disk.now)) in
    each_sound meant a.disk b.disk (restored a.files) start v had o (commands_leave meant o e a b safe folder told sound call)

-- ---- the only image

pub disk_ends : {C : Type 0} (meant : Meaning C) (a b : Disk) (before : Files) → IsBefore (read a.now) before → (o : Outcome C) (e : Ending) → CommandsDisk meant o e a b → Ends o (after meant before) b.now
disk_ends meant a b before is Made e call =
    let m = call.0 before is in
    subst (λ (v : View). Within b.now (Same v)) (sym (after_made meant before m.0 m.1.means)) m.1.settled.only
disk_ends meant a b before is (Refused cause) e call =
    let l = call.0 before is in
    subst (λ (v : View). Within b.now (Same v)) (sym (after_refused meant before cause l.means)) l.only
disk_ends meant a b before is Failed e call = tt
disk_ends meant a b before is Lacked e call = tt

pub commands_end : {C : Type 0} → CommandsEnd C
commands_end meant o e a b folder told call = disk_ends meant a.disk b.disk (restored a.files) (is_before a folder told) o e (call.disk told)

-- ---- what is read

-- files without an own name stand for themselves
own_none : (v : View) → HasNoOwn v → Same (recovered v) v
own_none v none n = recovered_by v [] (ap rows_in (none journal refl)) n ∙ by (is_journal_name n) refl
  where
    by : (b : Bool) → is_journal_name n ≡ b → clean v n ≡ v n
    by true own = cond-true (is_journal_name n) None (v n) own ∙ sym (none n own)
    by false foreign = cond-false (is_journal_name n) None (v n) foreign

-- a folder whose journal is outside its grammar stands for itself
bad_itself : (v : View) → rows_in (v journal) ≡ None → Same (recovered v) v
unfolding recovered
bad_itself v bad n = ap (λ (o : Option (List Row)). all_done o v n) bad

-- a folder whose files before have a journal in its grammar has none
no_own : (old : View) (before : Files) → IsBefore old before → IsRecoverable (get before) → HasNoOwn (get before)
no_own old before is fine = by (rows_in (old journal)) refl
  where
    by : (o : Option (List Row)) → rows_in (old journal) ≡ o → HasNoOwn (get before)
    by (Some rows) spelled = subst HasNoOwn (sym (before_path old before is)) (recovered_no_own old rows spelled)
    by None bad = absurd (differ (sym (ap is_some (ap rows_in (is journal ∙ bad_itself old bad journal) ∙ bad)) ∙ fine))
      where
        differ : ◌≡◌ {A = Bool} false true → ⊥
        differ is = cc

spelled : (rows : List Change) → are_rows (rows_for rows) ≡ true → rows_of (journal_of rows) ≡ Some (rows_for rows)
spelled rows fine = written_rows (journal_of rows) (rows_for rows) fine refl

made_no_own : (before : View) (rows : List Change) → HasNoOwn before → are_rows (rows_for rows) ≡ true → HasNoOwn (applied rows before)
made_no_own before rows none fine = applied_no_own before none rows (journal_of rows) (spelled rows fine) (distinct_test (rows_for rows) fine)

module _ {C : Type 0} (meant : Meaning C) (old new before : Files) (safe : IsSafe meant) (sound : IsSound (get old)) (is : IsBefore (get old) before) where
  made_read : (rows : List Change) → MakesFiles rows before (get new) meant → IsSafeImage meant before (get new)
  made_read rows makes =
      let path : get new ≡ applied rows (get before) = λ i n. makes.files n i in
      let none : HasNoOwn (get new) = subst HasNoOwn (sym path) (made_no_own (get before) rows (no_own (get old) before is (safe.ready before rows makes.means)) (safe.fits before rows makes.means)) in
      let rule : KeepsTheRule (get new) = subst KeepsTheRule (sym path) (safe.safe before rows makes.means (before_keeps (get old) before sound is) (λ _. true)) in
      record {
        sound = no_rows (get new) (ap rows_in (none journal refl)) rule;
        stands = inr (subst (Same (recovered (get new))) (path ∙ sym (after_made meant before rows makes.means)) (own_none (get new) none));
      }

  refused_read : (cause : C) → LeavesFiles cause before new meant → IsSafeImage meant before (get new)
  refused_read cause leaves = subst (λ (fs : Files). IsSafeImage meant before (get fs)) (sym leaves.files) (by (rows_in (get old journal)) refl)
    where
      by : (o : Option (List Row)) → rows_in (get old journal) ≡ o → IsSafeImage meant before (get before)
      by (Some rows) fine =
          let none : HasNoOwn (get before) = subst HasNoOwn (sym (before_path (get old) before is)) (recovered_no_own (get old) rows fine) in
          record { sound = no_rows (get before) (ap rows_in (none journal refl)) (before_keeps (get old) before sound is); stands = inl (own_none (get before) none) }
      by None bad =
          let path : get before ≡ get old = λ i n. (is n ∙ bad_itself (get old) bad n) i in
          record { sound = subst IsSound (sym path) sound; stands = inl (subst (λ (v : View). Same (recovered v) v) (sym path) (bad_itself (get old) bad)) }

  failed_read : FailsFiles meant old new → IsSafeImage meant before (get new)
  failed_read (inl stands) = stands_safe meant (get old) before sound is (get new) stands
  failed_read (inr breaks) =
      let m = breaks before is in
      between_safe meant (get old) before sound is safe m.0 m.1.means (get new) (subst (λ (v : View). StandsBetween v m.0 (get new)) (before_path (get old) before is) m.1.stands)

  files_read : (o : Outcome C) (e : Ending) → CommandsFiles meant o e old new → IsSafeImage meant before (get new)
  files_read Made e call = let m = call before is in made_read m.0 m.1
  files_read (Refused cause) e call = refused_read cause (call before is)
  files_read Failed e call = failed_read call
  files_read Lacked e call = stands_safe meant (get old) before sound is (get new) call

pub commands_read : {C : Type 0} → CommandsRead C
commands_read meant o e a b safe told sound call = files_read meant a.files b.files (restored a.files) safe sound (restored_before a.files) o e (call.files told)
