-- The calls of each phase.
use Rattle.std.proofs.Common.{◌≡◌, ◌⊎◌, inl, inr, ⊎_elim, ℕ, ◌+◌, ◌≤◌, ◌<◌, ◌^◌, ◌&&◌, ◌==◌, Bool, true, false, cond, List, [], ◌∷◌, ◌++◌, length, get_or, suc, zero, Option, Some, None, is_some, ltb, Result, Ok, Err, OnOk, refl, sym, ◌∙◌, ap, subst, arith}
use Rattle.std.proofs.lemmas.Bool.{cases_Bool, and_left, cond-true, cond-false, eq-eqb, eqb-true}
use Rattle.std.proofs.lemmas.Bool.Decides.{nat_tests}
use Rattle.pl_folder.specs.Disk.{Name, View, State, Disk, Content, IsWhole, same, bytes_of, names_of, read, after}
use Rattle.pl_journal.specs.declared.step.Step.{Step}
use Rattle.pl_journal.specs.declared.step.Step.TheVariants.{Put as PutStep, Drop as DropStep, Skip}
use Rattle.pl_folder.specs.Effects.{GrowsDisk, StepsDisk, StepsDiskOrNot}
use Rattle.pl_folder.specs.Seen.{Ending, ends}
use Rattle.pl_io.specs.declared.failed.Failed.{Failed}
use Rattle.pl_folder.specs.States.{with_file, created, appended, appended_to, firmed, firmed_at, renamed, removed, settled}
use Rattle.pl_journal.specs.FileNames.{name_text}
use Rattle.pl_journal.specs.declared.file_name.FileName.{FileName}
use Rattle.pl_folder.specs.Since.{Within, Keeps}
use Rattle.pl_journal.specs.Names.{is_journal_name, beside, journal, journal_new}
use Rattle.pl_journal.specs.Rows.{done_from}
use Rattle.pl_journal.specs.Spelling.{are_rows}
use Rattle.pl_journal.specs.declared.row.Row.{Row}
use Rattle.pl_journal.specs.declared.row.Row.TheVariants.{Put, Drop}
use Rattle.pl_journal.specs.Meaning.{Same}
use Rattle.pl_journal.specs.Phases.{Untouched, with_bytes, shifted, Midway, Gone, Clearing, IsStaging, IsStaged, IsCommitting, IsDoing, IsClearing, RowAt, IsPut, IsStep, AreSteps}
use Rattle.pl_journal.specs.Phases.{Committing, Finishing, finished}
use Rattle.pl_folder.proofs.ImageLaws.{itself, read_image, firmed_image, firmed_reads, firmed_whole, firmed_firm, settled_reads, settled_within, settled_whole, renamed_image, renamed_reads, renamed_whole, removed_image, removed_reads, removed_whole, created_image, created_writing, created_reads, every_owned, file_image, file_writing, file_reads, Apart, IsWriting}
use Rattle.pl_journal.proofs.NameLemmas.{equal, apart}
use Rattle.pl_journal.proofs.Done.{own_not, valid_not, AreDistinct, distinct_test, done_agree, none_done, journal_stays, beside_apart}
use Rattle.pl_journal.proofs.Steps.{begins, midway, firm_step, put_step, drop_step, skip_step}
use Rattle.pl_journal.proofs.Moments.{starts, weaker, appends, does, does_or_not}

other_firm : (files : ℕ → Content) (new : Content) (f at : ℕ) → (at ≡ f → ⊥) → (files at).is_firm ≡ true → (with_file f new files at).is_firm ≡ true
other_firm files new f at other firm = ⊎_elim
    (λ hit. absurd (other (eqb-true at f hit)))
    (λ missed. ap (λ (x : Content). x.is_firm) (cond-false (at == f) new (files at) missed) ∙ firm)
    (cases_Bool (at == f))

-- a file is written under an own name
module _ (before : View) (name : Name) (own : is_journal_name name ≡ true) (other : same journal name ≡ false) where
  still : (u v : View) → Untouched before u → Apart name u v → Untouched before v
  still u v old apart = record {
    agree = λ n valid. apart n (valid_not n name valid own) ∙ old.agree n valid;
    no_journal = apart journal other ∙ old.no_journal;
  }

  -- while it is written: what its file has so far
  pub record Putting (r : View) (f : ℕ) (bytes : List ℕ) (s : State) : Type 0 where
    pub writing : IsWriting name f s
    pub others : (n : Name) → is_journal_name n ≡ true → same n name ≡ false → (at : ℕ) → names_of s n ≡ Some at → (s.files at).is_firm ≡ true
    pub within : Within s (Untouched before)
    pub reads : Apart name r (read s)
    pub has : (s.files f).bytes ≡ bytes

  abbrev P : View → Type 0
  P = Untouched before

  creating : (r : View) (s : State) → IsStaging before r s → Putting r s.count [] (created name s)
  creating r s staging = record {
    writing = created_writing name s staging.whole;
    others = λ n valid missed at named. other_firm s.files (record { bytes = []; is_firm = false }) s.count at
        (λ e. every_owned name s.count (created name s) (created_writing name s staging.whole) n missed (named ∙ ap (λ (k : ℕ). Some k) e))
        (staging.firm n valid at (sym (cond-false (same n name) (Some s.count) (names_of s n) missed) ∙ named));
    within = λ v image. let u = created_image name s staging.whole v image in still u.0 v (staging.within u.0 u.1) u.2;
    reads = λ n missed. created_reads name s staging.whole n missed ∙ staging.reads n;
    has = ap (λ (x : Content). x.bytes) (cond-true (s.count == s.count) (record { bytes = []; is_firm = false }) (s.files s.count) (eq-eqb s.count s.count refl));
  }

  writing_on : (r : View) (f : ℕ) (bytes : List ℕ) (s : State) (file : Content) → Putting r f bytes s → Putting r f file.bytes (record s { files = with_file f file s.files })
  writing_on r f bytes s file putting = record {
    writing = file_writing name f s putting.writing file;
    others = λ n valid missed at named. other_firm s.files file f at (λ e. every_owned name f s putting.writing n missed (named ∙ ap (λ (k : ℕ). Some k) e)) (putting.others n valid missed at named);
    within = λ v image. let u = file_image name f s putting.writing file v image in still u.0 v (putting.within u.0 u.1) u.2;
    reads = λ n missed. file_reads name f s putting.writing file n missed ∙ putting.reads n missed;
    has = ap (λ (x : Content). x.bytes) (cond-true (f == f) file (s.files f) (eq-eqb f f refl));
  }

  appending : (r : View) (f : ℕ) (bytes some : List ℕ) (s : State) → Putting r f bytes s → Putting r f (bytes ++ some) (appended name some s)
  appending r f bytes some s putting = subst (λ at. Putting r f (bytes ++ some) (appended_to at some s)) (sym putting.writing.named)
      (subst (λ b. Putting r f (b ++ some) (appended_to (Some f) some s)) putting.has (writing_on r f bytes s (record { bytes = (s.files f).bytes ++ some; is_firm = false }) putting))

  firming : (r : View) (f : ℕ) (bytes : List ℕ) (s : State) → Putting r f bytes s → Putting r f bytes (firmed name s)
  firming r f bytes s putting = subst (λ at. Putting r f bytes (firmed_at at s)) (sym putting.writing.named)
      (subst (λ b. Putting r f b (firmed_at (Some f) s)) putting.has (writing_on r f bytes s (record { bytes = (s.files f).bytes; is_firm = true }) putting))

  firmed_now : (r : View) (f : ℕ) (bytes : List ℕ) (s : State) → Putting r f bytes s → ((firmed name s).files f).is_firm ≡ true
  firmed_now r f bytes s putting = subst (λ at. ((firmed_at at s).files f).is_firm ≡ true) (sym putting.writing.named)
      (ap (λ (x : Content). x.is_firm) (cond-true (f == f) (record { bytes = (s.files f).bytes; is_firm = true }) (s.files f) (eq-eqb f f refl)))

  written : (r : View) (f : ℕ) (bytes : List ℕ) (s : State) → Putting r f bytes s → (s.files f).is_firm ≡ true → IsStaging before (with_bytes name bytes r) s
  written r f bytes s putting firm = record {
    whole = putting.writing.whole;
    firm = λ n valid at named. ⊎_elim
        (λ hit.
        let is : Some f ≡ Some at = sym putting.writing.named ∙ ap (names_of s) (sym (equal n name hit)) ∙ named in
        let e : f ≡ at = cc in
        subst (λ (k : ℕ). (s.files k).is_firm ≡ true) e firm)
        (λ missed. putting.others n valid missed at named)
        (cases_Bool (same n name));
    within = putting.within;
    reads = λ n. ⊎_elim
        (λ hit.
        ap (read s) (equal n name hit)
        ∙ ap (bytes_of s.files) putting.writing.named
        ∙ ap (λ b. Some b) putting.has
        ∙ sym (cond-true (same n name) _ _ hit))
        (λ missed. putting.reads n missed ∙ sym (cond-false (same n name) _ _ missed))
        (cases_Bool (same n name));
  }

  module _ (r : View) (d : Disk) (staging : IsStaging before r d.now) where
    pub keeps_create : (e : Ending) (d1 : Disk) → StepsDisk (created name) e d d1 → Keeps d d1 P
    keeps_create e d1 = does d d1 P staging.within e (created name) (creating r d.now staging).within

    pub at_create : (d1 : Disk) → d1 ≡ after (created name d.now) d → Putting r d.now.count [] d1.now
    at_create d1 is = subst (λ e. Putting r d.now.count [] e.now) (sym is) (creating r d.now staging)

  module _ (r : View) (f : ℕ) (d : Disk) (putting : Putting r f [] d.now) where
    pub keeps_append : (e : Ending) (bytes : List ℕ) (d1 : Disk) → GrowsDisk name bytes e d d1 → Keeps d d1 P
    keeps_append e bytes d1 = appends d d1 P putting.within e name bytes (λ some. (appending r f [] some d.now putting).within)

    pub at_append : (bytes : List ℕ) (d1 : Disk) → d1 ≡ after (appended name bytes d.now) d → Putting r f bytes d1.now
    at_append bytes d1 is = subst (λ e. Putting r f bytes e.now) (sym is) (appending r f [] bytes d.now putting)

  module _ (r : View) (f : ℕ) (bytes : List ℕ) (d : Disk) (putting : Putting r f bytes d.now) where
    pub keeps_firm : (e : Ending) (d1 : Disk) → StepsDiskOrNot (firmed name) e d d1 → Keeps d d1 P
    keeps_firm e d1 = does_or_not d d1 P putting.within e (firmed name) (firming r f bytes d.now putting).within

    pub at_firm : (d1 : Disk) → d1 ≡ after (firmed name d.now) d → IsStaging before (with_bytes name bytes r) d1.now
    at_firm d1 is = subst (λ e. IsStaging before (with_bytes name bytes r) e.now) (sym is) (written r f bytes (firmed name d.now) (firming r f bytes d.now putting) (firmed_now r f bytes d.now putting))

-- the commit
module _ (before r : View) (rows : List Row) (there : is_some (r journal_new) ≡ true) where
  abbrev C : View → Type 0
  C = Committing before r rows

  abbrev committed : View
  committed = shifted journal_new journal r

  module _ (d : Disk) (staging : IsStaging before r d.now) where
    pub keeps_settle : (e : Ending) (d1 : Disk) → StepsDiskOrNot settled e d d1 → Keeps d d1 C
    keeps_settle e d1 = does_or_not d d1 C (λ v image. inl (staging.within v image)) e settled (settled_within d.now C (inl (staging.within (read d.now) (read_image d.now))))

    -- settled: the only image is what is staged
    pub at_settle : (d1 : Disk) → d1 ≡ after (settled d.now) d → IsStaged before r d1.now
    at_settle d1 is = subst (λ e. IsStaged before r e.now) (sym is) (record {
      whole = settled_whole d.now staging.whole;
      firm = λ file. refl;
      only = settled_within d.now (λ v. Untouched before v × Same v r) (staging.within (read d.now) (read_image d.now), staging.reads);
      reads = λ n. settled_reads d.now n ∙ staging.reads n;
    })

  module _ (d : Disk) (staged : IsStaged before r d.now) where
    only_committed : (v u : View) → ((n : Name) → v n ≡ cond (same n journal) (read d.now journal_new) (cond (same n journal_new) None (u n))) → Same u r → Same v committed
    only_committed v u is same_u n = is n ∙ (λ i. cond (same n journal) (staged.reads journal_new i) (cond (same n journal_new) None (same_u n i)))

    midway_none : (v : View) → Same v committed → Midway committed rows v
    midway_none v is = record { keep = λ _. false; done = λ n. is n ∙ sym (none_done 0 rows committed n) }

    -- the journal's file is made firm again
    pub staged_firmed : Within (firmed journal_new d.now) C × IsStaged before r (firmed journal_new d.now)
    staged_firmed = (
      λ v image. inl (staged.only v (firmed_image journal_new d.now v image)).0,
      record {
        whole = firmed_whole journal_new d.now staged.whole;
        firm = firmed_firm journal_new d.now staged.firm;
        only = λ v image. staged.only v (firmed_image journal_new d.now v image);
        reads = λ n. firmed_reads journal_new d.now n ∙ staged.reads n;
      },
    )

    pub keeps_rename : (e : Ending) (d1 : Disk) → StepsDisk (renamed journal_new journal) e d d1 → Keeps d d1 C
    keeps_rename e d1 = does d d1 C (λ v image. inl (staged.only v image).0) e (renamed journal_new journal)
        (λ v image. ⊎_elim (λ old. inl (staged.only v old).0) (λ new. inr (midway_none v (only_committed v new.0 new.2 (staged.only new.0 new.1).1))) (renamed_image journal_new journal d.now staged.firm v image))

    pub at_rename : (d1 : Disk) → d1 ≡ after (renamed journal_new journal d.now) d → IsCommitting before r d1.now
    at_rename d1 is = subst (λ e. IsCommitting before r e.now) (sym is) (record {
      whole = renamed_whole journal_new journal d.now staged.whole;
      within = λ v image. ⊎_elim (λ old. inl (staged.only v old).0) (λ new. inr (only_committed v new.0 new.2 (staged.only new.0 new.1).1)) (renamed_image journal_new journal d.now staged.firm v image);
      reads = λ n. renamed_reads journal_new journal d.now staged.firm (subst (λ x. is_some x ≡ true) (sym (staged.reads journal_new)) there) n ∙ (λ i. cond (same n journal) (staged.reads journal_new i) (cond (same n journal_new) None (staged.reads n i)));
    })

  module _ (d : Disk) (committing : IsCommitting before r d.now) where
    either : (v : View) → Untouched before v ⊎ Same v committed → C v
    either v (inl old) = inl old
    either v (inr new) = inr (record { keep = λ _. false; done = λ n. new n ∙ sym (none_done 0 rows committed n) })

    pub keeps_last : (e : Ending) (d1 : Disk) → StepsDiskOrNot settled e d d1 → Keeps d d1 C
    keeps_last e d1 = does_or_not d d1 C (λ v image. either v (committing.within v image)) e settled (settled_within d.now C (either (read d.now) (inr committing.reads)))

    pub at_last : (d1 : Disk) → d1 ≡ after (settled d.now) d → IsDoing committed rows 0 d1.now
    at_last d1 is = subst (λ e. IsDoing committed rows 0 e.now) (sym is) (begins d.now committed rows committing.whole committing.reads)

-- a row
module _ (v : View) (rows : List Row) (distinct : are_rows rows ≡ true) (k : ℕ) (d : Disk) (doing : IsDoing v rows k d.now) where
  apart_rows : AreDistinct 0 rows
  apart_rows = distinct_test rows distinct

  pub keeps_nothing : Keeps d d (Midway v rows)
  keeps_nothing = starts d (Midway v rows) (midway v rows k d.now doing)

  pub keeps_firm_row : (name : Name) (e : Ending) (d1 : Disk) → StepsDiskOrNot (firmed name) e d d1 → Keeps d d1 (Midway v rows)
  keeps_firm_row name e d1 = does_or_not d d1 (Midway v rows) (midway v rows k d.now doing) e (firmed name) (midway v rows k (firmed name d.now) (firm_step v rows apart_rows k d.now doing name))

  pub at_firm_row : (name : Name) (d1 : Disk) → d1 ≡ after (firmed name d.now) d → IsDoing v rows k d1.now
  at_firm_row name d1 is = subst (λ e. IsDoing v rows k e.now) (sym is) (firm_step v rows apart_rows k d.now doing name)

  module _ (from to name : Name) (at : RowAt 0 rows k (Put name)) (step : IsPut v k name from to) where
    put_at : IsDoing v rows (k + 1) (renamed from to d.now)
    put_at = subst (λ q. IsDoing v rows (k + 1) (renamed q to d.now)) (sym step.0) (subst (λ q. IsDoing v rows (k + 1) (renamed (beside k) q d.now)) (sym step.1) (put_step v rows apart_rows k d.now doing name at step.2))

    pub keeps_put : (e : Ending) (d1 : Disk) → StepsDisk (renamed from to) e d d1 → Keeps d d1 (Midway v rows)
    keeps_put e d1 = does d d1 (Midway v rows) (midway v rows k d.now doing) e (renamed from to) (midway v rows (k + 1) (renamed from to d.now) put_at)

    pub at_put : (d1 : Disk) → d1 ≡ after (renamed from to d.now) d → IsDoing v rows (k + 1) d1.now
    at_put d1 is = subst (λ e. IsDoing v rows (k + 1) e.now) (sym is) put_at

  pub at_skip : (name : Name) → RowAt 0 rows k (Put name) → v (beside k) ≡ None → IsDoing v rows (k + 1) d.now
  at_skip name at none = skip_step v rows apart_rows k d.now doing name at none

  module _ (gone name : Name) (at : RowAt 0 rows k (Drop name)) (step : gone ≡ name) where
    drop_at : IsDoing v rows (k + 1) (removed gone d.now)
    drop_at = subst (λ q. IsDoing v rows (k + 1) (removed q d.now)) (sym step) (drop_step v rows apart_rows k d.now doing name at)

    pub keeps_drop : (e : Ending) (d1 : Disk) → StepsDisk (removed gone) e d d1 → Keeps d d1 (Midway v rows)
    keeps_drop e d1 = does d d1 (Midway v rows) (midway v rows k d.now doing) e (removed gone) (midway v rows (k + 1) (removed gone d.now) drop_at)

    pub at_drop : (d1 : Disk) → d1 ≡ after (removed gone d.now) d → IsDoing v rows (k + 1) d1.now
    at_drop d1 is = subst (λ e. IsDoing v rows (k + 1) e.now) (sym is) drop_at

-- which row a step does
module _ (v : View) (rows : List Row) (k : ℕ) where
  pub put_step_row : (row : Row) (step : Step) (from to : FileName) → step ≡ PutStep from to → RowAt 0 rows k row → IsStep v k row step → (name : Name) × RowAt 0 rows k (Put name) × IsPut v k name (name_text from) (name_text to)
  put_step_row (Put name) step from to is at does = (name, at, subst (IsStep v k (Put name)) is does)
  put_step_row (Drop name) step from to is at does = absurd (subst (IsStep v k (Drop name)) is does)

  pub drop_step_row : (row : Row) (step : Step) (gone : FileName) → step ≡ DropStep gone → RowAt 0 rows k row → IsStep v k row step → (name : Name) × RowAt 0 rows k (Drop name) × (name_text gone ≡ name)
  drop_step_row (Put name) step gone is at does = absurd (subst (IsStep v k (Put name)) is does)
  drop_step_row (Drop name) step gone is at does = (name, at, subst (IsStep v k (Drop name)) is does)

  pub skip_step_row : (row : Row) (step : Step) → step ≡ Skip → RowAt 0 rows k row → IsStep v k row step → (name : Name) × RowAt 0 rows k (Put name) × (v (beside k) ≡ None)
  skip_step_row (Put name) step is at does = (name, at, subst (IsStep v k (Put name)) is does)
  skip_step_row (Drop name) step is at does = absurd (subst (IsStep v k (Drop name)) is does)

-- all rows are done
gone_all : (i : ℕ) (rows : List Row) (v w : View) → AreDistinct i rows → ((j : ℕ) → i ≤ j → j < 2 ^ 64 → w (beside j) ≡ done_from i rows (λ _. true) v (beside j)) → Gone i rows w
gone_all i [] v w distinct is = tt
gone_all i (Put name ∷ rows) v w distinct is = (
  is i (omega arith) distinct.2 ∙ cond-true (same (beside i) (beside i)) _ _ (itself (beside i)),
  gone_all (i + 1) rows v w distinct.3 (λ j le fits. is j (omega arith) fits
      ∙ cond-false (same (beside j) (beside i)) _ _ (beside_apart j i fits distinct.2 (λ e. omega arith))
      ∙ cond-false (same (beside j) name && is_some (v (beside i))) _ _ (and_left (same (beside j) name) _ (own_not (beside j) name refl distinct.0))),
)
gone_all i (Drop name ∷ rows) v w distinct is = gone_all (i + 1) rows v w distinct.3 (λ j le fits. is j (omega arith) fits ∙ cond-false (same (beside j) name) _ _ (own_not (beside j) name refl distinct.0))

pub below_all : (i : ℕ) (rows : List Row) (v : View) (n : Name) → done_from i rows (λ j. ltb j (i + length rows)) v n ≡ done_from i rows (λ _. true) v n
below_all i [] v n = refl
below_all i (Put name ∷ rows) v n =
    let here : ltb i (i + length (Put name ∷ rows)) ≡ true = grind (arith, nat_tests) in
    let rest : done_from (i + 1) rows (λ j. ltb j (i + length (Put name ∷ rows))) v n ≡ done_from (i + 1) rows (λ _. true) v n =
    done_agree (i + 1) rows (λ j. ltb j (i + length (Put name ∷ rows))) (λ j. ltb j (i + 1 + length rows)) v n (λ j le. ap (ltb j) (omega arith)) ∙ below_all (i + 1) rows v n in
    λ t. cond (here t && same n (beside i)) None (cond (here t && (same n name && is_some (v (beside i)))) (v (beside i)) (rest t))
below_all i (Drop name ∷ rows) v n =
    let here : ltb i (i + length (Drop name ∷ rows)) ≡ true = grind (arith, nat_tests) in
    let rest : done_from (i + 1) rows (λ j. ltb j (i + length (Drop name ∷ rows))) v n ≡ done_from (i + 1) rows (λ _. true) v n =
    done_agree (i + 1) rows (λ j. ltb j (i + length (Drop name ∷ rows))) (λ j. ltb j (i + 1 + length rows)) v n (λ j le. ap (ltb j) (omega arith)) ∙ below_all (i + 1) rows v n in
    λ t. cond (here t && same n name) None (rest t)

pub below_rows : (rows : List Row) (v : View) (n : Name) → done_from 0 rows (λ j. ltb j (length rows)) v n ≡ done_from 0 rows (λ _. true) v n
below_rows rows v n = done_agree 0 rows (λ j. ltb j (length rows)) (λ j. ltb j (0 + length rows)) v n (λ j le. ap (ltb j) (omega arith)) ∙ below_all 0 rows v n

pub all_read : (v : View) (rows : List Row) (s : State) → IsDoing v rows (length rows) s → Same (read s) (done_from 0 rows (λ _. true) v)
all_read v rows s doing n = doing.reads n ∙ done_agree 0 rows (λ j. ltb j (length rows)) (λ j. ltb j (0 + length rows)) v n (λ j le. ap (ltb j) (omega arith)) ∙ below_all 0 rows v n

-- own names go
module _ (v : View) (rows : List Row) (distinct : AreDistinct 0 rows) where
  pub all_clearing : (w : View) → Same w (done_from 0 rows (λ _. true) v) → Clearing v rows w
  all_clearing w is = record {
    agree = λ n valid. is n;
    gone = gone_all 0 rows v w distinct (λ j le fits. is (beside j));
    journal_goes = inr (is journal ∙ journal_stays 0 rows (λ _. true) v distinct);
  }

  gone_cut : (i : ℕ) (rows : List Row) (name : Name) (u w : View) → ((n : Name) → w n ≡ cond (same n name) None (u n)) → Gone i rows u → Gone i rows w
  gone_cut i [] name u w is gone = tt
  gone_cut i (Put m ∷ rows) name u w is gone = (is (beside i) ∙ none (same (beside i) name) (u (beside i)) gone.0, gone_cut (i + 1) rows name u w is gone.1)
    where
      none : (b : Bool) (x : Option (List ℕ)) → x ≡ None → cond b None x ≡ None
      none true x e = refl
      none false x e = e
  gone_cut i (Drop m ∷ rows) name u w is gone = gone_cut (i + 1) rows name u w is gone

  pub clearing_cut : (name : Name) → is_journal_name name ≡ true → (u w : View) → ((n : Name) → w n ≡ cond (same n name) None (u n)) → Clearing v rows u → Clearing v rows w
  clearing_cut name own u w is old = record {
    agree = λ n valid. is n ∙ cond-false (same n name) _ _ (valid_not n name valid own) ∙ old.agree n valid;
    gone = gone_cut 0 rows name u w is old.gone;
    journal_goes = ⊎_elim
        (λ hit. inl (is journal ∙ cond-true (same journal name) _ _ hit))
        (λ missed. ⊎_elim (λ none. inl (is journal ∙ cond-false (same journal name) _ _ missed ∙ none)) (λ held. inr (is journal ∙ cond-false (same journal name) _ _ missed ∙ held)) old.journal_goes)
        (cases_Bool (same journal name));
  }

  -- a settled folder with all rows done
  pub settled_clearing : (s : State) → IsDoing v rows (length rows) s → IsClearing v rows (settled s)
  settled_clearing s doing = record {
    whole = settled_whole s doing.whole;
    within = settled_within s (Clearing v rows) (all_clearing (read s) (all_read v rows s doing));
  }

  pub removed_clearing : (name : Name) → is_journal_name name ≡ true → (s : State) → IsClearing v rows s → IsClearing v rows (removed name s)
  removed_clearing name own s clearing = record {
    whole = removed_whole name s clearing.whole;
    within = λ w image. ⊎_elim (clearing.within w) (λ new. clearing_cut name own new.0 w new.2 (clearing.within new.0 new.1)) (removed_image name s w image);
  }

  pub again_clearing : (s : State) → IsClearing v rows s → IsClearing v rows (settled s)
  again_clearing s clearing = record { whole = settled_whole s clearing.whole; within = settled_within s (Clearing v rows) (clearing.within (read s) (read_image s)) }

-- the end of a journal
module _ (v : View) (rows : List Row) (distinct : are_rows rows ≡ true) where
  abbrev F : View → Type 0
  F = Finishing v rows

  cleared : (s : State) → IsClearing v rows s → Within s F
  cleared s clearing w image = inr (clearing.within w image)

  module _ (d : Disk) (doing : IsDoing v rows (length rows) d.now) where
    pub keeps_settle_rows : (e : Ending) (d1 : Disk) → StepsDiskOrNot settled e d d1 → Keeps d d1 F
    keeps_settle_rows e d1 = does_or_not d d1 F (λ w image. inl (midway v rows (length rows) d.now doing w image)) e settled (cleared (settled d.now) (settled_clearing v rows (distinct_test rows distinct) d.now doing))

    pub at_settle_rows : (d1 : Disk) → d1 ≡ after (settled d.now) d → IsClearing v rows d1.now × Same (read d1.now) (done_from 0 rows (λ _. true) v)
    at_settle_rows d1 is = subst (λ e. IsClearing v rows e.now × Same (read e.now) (done_from 0 rows (λ _. true) v)) (sym is) (settled_clearing v rows (distinct_test rows distinct) d.now doing, λ n. settled_reads d.now n ∙ all_read v rows d.now doing n)

  module _ (d : Disk) (clearing : IsClearing v rows d.now) where
    pub keeps_remove : (name : Name) → is_journal_name name ≡ true → (e : Ending) (d1 : Disk) → StepsDisk (removed name) e d d1 → Keeps d d1 (Clearing v rows)
    keeps_remove name own e d1 = does d d1 (Clearing v rows) clearing.within e (removed name) (removed_clearing v rows (distinct_test rows distinct) name own d.now clearing).within

    pub at_remove : (name : Name) → is_journal_name name ≡ true → (d1 : Disk) → d1 ≡ after (removed name d.now) d → IsClearing v rows d1.now
    at_remove name own d1 is = subst (λ e. IsClearing v rows e.now) (sym is) (removed_clearing v rows (distinct_test rows distinct) name own d.now clearing)

    pub keeps_settle_clear : (e : Ending) (d1 : Disk) → StepsDiskOrNot settled e d d1 → Keeps d d1 (Clearing v rows)
    keeps_settle_clear e d1 = does_or_not d d1 (Clearing v rows) clearing.within e settled (again_clearing v rows (distinct_test rows distinct) d.now clearing).within

  pub to_finishing : (a b : Disk) → Keeps a b (Clearing v rows) → Keeps a b F
  to_finishing a b keeps = weaker a b (Clearing v rows) F (λ w c. inr c) keeps

  pub at_end : (d d1 d2 : Disk) → IsWhole d.now → Same (read d.now) (done_from 0 rows (λ _. true) v) → d1 ≡ after (removed journal d.now) d → d2 ≡ after (settled d1.now) d1 → IsWhole d2.now × Within d2.now (Same (finished v rows))
  at_end d d1 d2 whole reads one two = subst (λ e. IsWhole e.now × Within e.now (Same (finished v rows))) (sym (two ∙ (λ i. after (settled (one i).now) (one i)))) (
    settled_whole (removed journal d.now) (removed_whole journal d.now whole),
    settled_within (removed journal d.now) (Same (finished v rows)) (λ n. sym (removed_reads journal d.now n ∙ ap (λ r. cond (same n journal) None r) (reads n))),
  )

-- what holds after an Ok of a call
pub ok_of_does : {E T Y : Type 0} (result : Result E Failed) (step : State → State) (old new : Disk) → (T → StepsDisk step (ends result) old new) → (T → new ≡ after (step old.now) old → Y) → OnOk result (T → Y)
ok_of_does (Ok x) step old new does f = λ t. f t (does t)
ok_of_does (Err e) step old new does f = tt

-- the row of a step
pub row_of_step : (v : View) (i : ℕ) (rows : List Row) (steps : List Step) (k : ℕ) (step : Step) → AreSteps v i rows steps → k < length steps → step ≡ get_or steps k step → (row : Row) × RowAt i rows (i + k) row × IsStep v (i + k) row step
row_of_step v i [] [] k step are lt is = absurd (omega (arith, lt))
row_of_step v i [] (s ∷ steps) k step are lt is = absurd are
row_of_step v i (row ∷ rows) [] k step are lt is = absurd are
row_of_step v i (row ∷ rows) (s ∷ steps) zero step are lt is =
    let e : i ≡ i + 0 = omega arith in
    (row, inl (e, refl), subst (λ j. IsStep v j row step) e (subst (IsStep v i row) (sym is) are.0))
row_of_step v i (row ∷ rows) (s ∷ steps) (suc k) step are lt is =
    let e : (i + 1) + k ≡ i + suc k = omega arith in
    let r = row_of_step v (i + 1) rows steps k step are.1 (omega (arith, lt)) is in
    (r.0, inr (subst (λ j. RowAt (i + 1) rows j r.0) e r.1), subst (λ j. IsStep v j r.0 step) e r.2)

pub as_many : (v : View) (i : ℕ) (rows : List Row) (steps : List Step) → AreSteps v i rows steps → length steps ≡ length rows
as_many v i [] [] are = refl
as_many v i [] (s ∷ steps) are = absurd are
as_many v i (row ∷ rows) [] are = absurd are
as_many v i (row ∷ rows) (s ∷ steps) are = ap suc (as_many v (i + 1) rows steps are.1)

pub row_of_first_step : (v : View) (rows : List Row) (steps : List Step) (k : ℕ) (step : Step) → AreSteps v 0 rows steps → k < length steps → step ≡ get_or steps k step → (row : Row) × RowAt 0 rows k row × IsStep v k row step
row_of_first_step v rows steps k step are lt is =
    let it = row_of_step v 0 rows steps k step are lt is in
    let e : 0 + k ≡ k = omega arith in
    (it.0, subst (λ j. RowAt 0 rows j it.0) e it.1, subst (λ j. IsStep v j it.0 step) e it.2)
