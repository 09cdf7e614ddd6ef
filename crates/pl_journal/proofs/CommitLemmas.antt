-- The calls of the commit, of the rows and of the end, as parts.
use Rattle.std.proofs.Common.{◌≡◌, ◌⊎◌, inl, inr, ℕ, ◌+◌, ◌<◌, ◌≤◌, Bool, true, false, cond, ltb, List, [], ◌∷◌, length, get_or, Option, Some, None, is_some, refl, sym, ◌∙◌, ap, subst, arith, Result, Ok, Err}
use Rattle.std.specs.FinMap.{contains_key, get}
use Rattle.pl_base.specs.Files.{Files}
use Rattle.pl_folder.specs.Calls.{Calls, IsThere}
use Rattle.pl_folder.specs.Disk.{Name, View, State, Disk, after, read, same}
use Rattle.pl_folder.specs.Effects.{Does, DoesOrNot, Effect, SameFiles, StepsDisk, StepsDiskOrNot, StepsFiles, firms, removes, files_after_rename, renames, settles}
use Rattle.pl_folder.specs.Seen.{Seen, Ending, Done, Broken, Undone}
use Rattle.pl_folder.specs.Since.{Keeps}
use Rattle.pl_folder.specs.States as state
use Rattle.pl_folder.proofs.ImageLaws.{removed_reads, settled_whole, settled_within}
use Rattle.pl_journal.specs.FileNames.{name_text}
use Rattle.pl_journal.specs.Meaning.{Same}
use Rattle.pl_journal.specs.Names.{beside, journal, journal_new}
use Rattle.pl_journal.specs.Parts.{AtDone, AtEnd, CanDo, CanStep, Commits, DoesRows, DoesTo, DoRows, Finishes, Goes, IsFinished, NamesFile, ReadsOrNot, StepsOn, is_firm, stepped, without_journal}
use Rattle.pl_journal.specs.Phases.{Committing, Finishing, IsClearing, IsCommitting, IsDoing, IsStaged, IsStaging, IsStep, Midway, RowAt, IsPut, finished, shifted}
use Rattle.pl_journal.specs.Rows.{done_from}
use Rattle.pl_journal.specs.Spelling.{are_rows}
use Rattle.pl_journal.specs.declared.file_name.FileName.{FileName}
use Rattle.pl_journal.specs.declared.row.Row.{Row}
use Rattle.pl_journal.specs.declared.row.Row.TheVariants.{Put, Drop}
use Rattle.pl_journal.specs.declared.step.Step.{Step}
use Rattle.pl_journal.specs.declared.step.Step.TheVariants.{Put as PutStep, Drop as DropStep, Skip}
use Rattle.pl_journal.proofs.Done.{distinct_test, done_agree, none_done}
use Rattle.pl_journal.proofs.Endings.{Stops, makes_told, no_calls, stopped, then_told, when_done}
use Rattle.pl_journal.proofs.FileViews.{get_removed, get_renamed}
use Rattle.pl_journal.proofs.Moments.{joined, starts, weaker}
use Rattle.pl_journal.proofs.Phases.{as_many, at_drop, at_firm_row, at_last, at_put, at_remove, at_rename, at_settle, at_settle_rows, at_skip, drop_step_row, keeps_drop, keeps_firm_row, keeps_last, keeps_nothing, keeps_put, keeps_remove, keeps_rename, keeps_settle, keeps_settle_clear, keeps_settle_rows, put_step_row, row_of_first_step, skip_step_row, to_finishing}
use Rattle.pl_journal.proofs.Steps.{drop_more, one_more, plus, put_more, skip_more, still_there, below}

-- what was done, of two ways to say it
done_step : (step : State → State) (e : Ending) (x y : Disk) → e ≡ Done → StepsDisk step e x y → y ≡ after (step x.now) x
done_step step e x y is disk = subst (λ f. StepsDisk step f x y) is disk

done_step_or_not : (step : State → State) (e : Ending) (x y : Disk) → e ≡ Done → StepsDiskOrNot step e x y → y ≡ after (step x.now) x
done_step_or_not step e x y is disk = subst (λ f. StepsDiskOrNot step f x y) is disk

-- ---- a file that is made firm and gets another name

module _ (from to : List ℕ) where
  pub names_stop : {a b : Seen} → Calls Broken (DoesOrNot (firms from)) a b → Calls Broken (NamesFile from to) a b
  names_stop call = makes_told refl call (λ told files. inl files) (λ told disk. inl disk)

  named_files : (e : Ending) (x y z : Files) → y ≡ x → StepsFiles (λ files. files_after_rename files from to) e y z → StepsFiles (λ files. files_after_rename files from to) e x z
  named_files e x y z one two = subst (λ (f : Files). StepsFiles (λ files. files_after_rename files from to) e f z) one two

  named_disk : (e : Ending) (x y z : Disk) → y ≡ is_firm from x → StepsDisk (state.renamed from to) e y z → Rattle.pl_journal.specs.Parts.NamesDisk from to e x z
  named_disk e x y z one two = by_ending e (subst (λ d. StepsDisk (state.renamed from to) e d z) one two)
    where
      by_ending : (e : Ending) → StepsDisk (state.renamed from to) e (is_firm from x) z → Rattle.pl_journal.specs.Parts.NamesDisk from to e x z
      by_ending Done is = is
      by_ending Broken is = inr is
      by_ending Undone is = is

  pub names_on : {e : Ending} {a b c : Seen} → Calls Done (DoesOrNot (firms from)) a b → Calls e (Does (renames from to)) b c → Calls e (NamesFile from to) a c
  names_on {e = e} {a = a} {b = b} {c = c} first second = then_told first second (λ told one two. named_files e a.files b.files c.files one two) (λ told one two. named_disk e a.disk b.disk c.disk one two)

-- ---- what is read after an ending

same_view : {x y : Files} → y ≡ x → Same (get y) (get x)
same_view is n = ap (λ (f : Files). get f n) is

pub read_not : (f : View → View) (e : Ending) (x y : Files) → Stops e → Same (get y) (get x) → ReadsOrNot f e x y
read_not f Done x y stops is = absurd stops
read_not f Broken x y stops is = inl is
read_not f Undone x y stops is = tt

pub read_done : (f : View → View) (e : Ending) (x y : Files) → Same (get y) (f (get x)) → ReadsOrNot f e x y
read_done f Done x y is = is
read_done f Broken x y is = inr is
read_done f Undone x y is = tt

read_steps : (f : View → View) (step : Files → Files) (e : Ending) (x y : Files) → Same (get (step x)) (f (get x)) → StepsFiles step e x y → ReadsOrNot f e x y
read_steps f step Done x y does is = λ n. same_view is n ∙ does n
read_steps f step Broken x y does (inl is) = inl (same_view is)
read_steps f step Broken x y does (inr is) = inr (λ n. same_view is n ∙ does n)
read_steps f step Undone x y does is = tt

-- a named file, by the files
named_view : (e : Ending) (from to : List ℕ) (x y : Files) → contains_key x from ≡ true → StepsFiles (λ files. files_after_rename files from to) e x y → ReadsOrNot (shifted from to) e x y
named_view e from to x y there named = read_steps (shifted from to) (λ files. files_after_rename files from to) e x y (get_renamed x from to there) named

-- a file that goes
pub removed_view : (e : Ending) (name : List ℕ) (x y : Files) → StepsFiles (λ files. Rattle.std.specs.FinMap.remove files name) e x y → ReadsOrNot (λ v n. cond (same n name) None (v n)) e x y
removed_view e name x y gone = read_steps (λ v n. cond (same n name) None (v n)) (λ files. Rattle.std.specs.FinMap.remove files name) e x y (get_removed x name) gone

-- ---- the commit

abbrev pub SettlesStaged : Effect
SettlesStaged = record { files = SameFiles; disk = λ e old new. (before r : View) (rows : List Row) → is_some (r journal_new) ≡ true → Goes (IsStaging before r) (Committing before r rows) (IsStaged before r) e old new }

abbrev pub NamesJournal : Effect
NamesJournal = record { files = ReadsOrNot (shifted journal_new journal); disk = λ e old new. (before r : View) (rows : List Row) → is_some (r journal_new) ≡ true → Goes (IsStaging before r) (Committing before r rows) (IsCommitting before r) e old new }

pub settles_staged : {e : Ending} {a b : Seen} → Calls e (DoesOrNot settles) a b → Calls e SettlesStaged a b
settles_staged {e = e} {a = a} {b = b} call = makes_told refl call (λ told same_files. same_files)
    (λ told disk before r rows there staging. (keeps_settle before r rows there a.disk staging e b.disk disk, when_done e (λ is. at_settle before r rows there a.disk staging b.disk (done_step_or_not state.settled e a.disk b.disk is disk))))

pub settles_stop : {e : Ending} {a b : Seen} → Stops e → Calls e SettlesStaged a b → Calls e Commits a b
settles_stop {e = e} {a = a} {b = b} stops call = makes_told refl call (λ told files. read_not (shifted journal_new journal) e a.files b.files stops (same_view files)) (λ told disk before r rows there staging. ((disk before r rows there staging).0, stopped _ e stops))

pub settled_there : {a b : Seen} → Calls Done SettlesStaged a b → IsThere a journal_new → IsThere b journal_new
settled_there call there told = let before = sym call.tells ∙ told in ap (λ (f : Files). contains_key f journal_new) (call.files before) ∙ there before

-- the journal's file is firm, and gets its name
journal_named : (before r : View) (rows : List Row) (there : is_some (r journal_new) ≡ true) (d : Disk) → IsStaged before r d.now → (e : Ending) (d2 : Disk) → Rattle.pl_journal.specs.Parts.NamesDisk journal_new journal e d d2
    → Keeps d d2 (Committing before r rows) × AtDone e (IsCommitting before r d2.now)
journal_named before r rows there d staged e d2 = by_ending e
  where
    d1 : Disk
    d1 = is_firm journal_new d

    C : View → Type 0
    C = Committing before r rows

    firm : Keeps d d1 C
    firm = Rattle.pl_journal.proofs.Moments.does_or_not d d1 C (λ v image. inl (staged.only v image).0) Done (state.firmed journal_new) (Rattle.pl_journal.proofs.Phases.staged_firmed before r rows there d staged).0 refl

    here : IsStaged before r d1.now
    here = (Rattle.pl_journal.proofs.Phases.staged_firmed before r rows there d staged).1

    by_ending : (e : Ending) → Rattle.pl_journal.specs.Parts.NamesDisk journal_new journal e d d2 → Keeps d d2 C × AtDone e (IsCommitting before r d2.now)
    by_ending Done is = (joined d d1 d2 C firm (keeps_rename before r rows there d1 here Done d2 is), at_rename before r rows there d1 here d2 is)
    by_ending Broken (inl is) = (Rattle.pl_journal.proofs.Moments.does_or_not d d2 C (λ v image. inl (staged.only v image).0) Broken (state.firmed journal_new) (Rattle.pl_journal.proofs.Phases.staged_firmed before r rows there d staged).0 is, tt)
    by_ending Broken (inr is) = (joined d d1 d2 C firm (keeps_rename before r rows there d1 here Broken d2 is), tt)
    by_ending Undone is = (joined d d1 d2 C firm (keeps_rename before r rows there d1 here Undone d2 is), tt)

pub names_journal : {e : Ending} {a b c : Seen} → IsThere a journal_new → Calls Done SettlesStaged a b → Calls e (NamesFile journal_new journal) b c → Calls e NamesJournal a c
names_journal {e = e} {a = a} {b = b} {c = c} there first second = then_told first second
    (λ told one two. subst (λ (f : Files). ReadsOrNot (shifted journal_new journal) e f c.files) one (named_view e journal_new journal b.files c.files (ap (λ (f : Files). contains_key f journal_new) one ∙ there told) two))
    (λ told one two before r rows is staging.
    let was = one before r rows is staging in
    let next = journal_named before r rows is b.disk was.1 e c.disk two in
    (joined a.disk b.disk c.disk (Committing before r rows) was.0 next.0, next.1))

pub names_stop_commit : {e : Ending} {a b : Seen} → Stops e → Calls e NamesJournal a b → Calls e Commits a b
names_stop_commit {e = e} stops call = makes_told refl call (λ told files. files) (λ told disk before r rows there staging. ((disk before r rows there staging).0, stopped _ e stops))

pub commits_on : {e : Ending} {a b c : Seen} → Calls Done NamesJournal a b → Calls e (DoesOrNot settles) b c → Calls e Commits a c
commits_on {e = e} {a = a} {b = b} {c = c} first second = then_told first second
    (λ told one two. read_done (shifted journal_new journal) e a.files c.files (λ n. same_view two n ∙ one n))
    (λ told one two before r rows there staging.
    let was = one before r rows there staging in (
      joined a.disk b.disk c.disk (Committing before r rows) was.0 (keeps_last before r rows there b.disk was.1 e c.disk two),
      when_done e (λ is. at_last before r rows there b.disk was.1 c.disk (done_step_or_not state.settled e b.disk c.disk is two)),
    ))

-- ---- a row

module _ (v : View) (rows : List Row) (fine : are_rows rows ≡ true) (k : ℕ) where
  -- which step does a row, and what is read after it
  pub next_done : (row : Row) (step : Step) → RowAt 0 rows k row → IsStep v k row step → (w u : View) → Same w (done_from 0 rows (λ j. ltb j k) v) → Same u (stepped step w) → Same u (done_from 0 rows (λ j. ltb j (k + 1)) v)
  next_done (Put name) (PutStep from to) at does w u was is n =
      let here : w (beside k) ≡ v (beside k) = was (beside k) ∙ still_there 0 rows (λ j. ltb j k) v k (Put name) at (distinct_test rows fine) (below k) in
      is n
      ∙ (λ t. cond (same n (does.1 t)) (w (does.0 t)) (cond (same n (does.0 t)) None (w n)))
      ∙ (λ t. cond (same n name) (here t) (cond (same n (beside k)) None (was n t)))
      ∙ sym (put_more v (λ j. ltb j k) n 0 rows k name at (distinct_test rows fine) does.2 (below k))
      ∙ done_agree 0 rows (plus k (λ j. ltb j k)) (λ j. ltb j (k + 1)) v n (λ j le. one_more k j)
  next_done (Put name) (DropStep gone) at does w u was is n = absurd does
  next_done (Put name) Skip at does w u was is n =
      is n ∙ was n ∙ sym (skip_more v (λ j. ltb j k) n 0 rows k name at (distinct_test rows fine) does) ∙ done_agree 0 rows (plus k (λ j. ltb j k)) (λ j. ltb j (k + 1)) v n (λ j le. one_more k j)
  next_done (Drop name) (PutStep from to) at does w u was is n = absurd does
  next_done (Drop name) (DropStep gone) at does w u was is n =
      is n
      ∙ (λ t. cond (same n (does t)) None (w n))
      ∙ ap (λ r. cond (same n name) None r) (was n)
      ∙ sym (drop_more v (λ j. ltb j k) n 0 rows k name at (distinct_test rows fine) (below k))
      ∙ done_agree 0 rows (plus k (λ j. ltb j k)) (λ j. ltb j (k + 1)) v n (λ j le. one_more k j)
  next_done (Drop name) Skip at does w u was is n = absurd does

  -- what a step asks for is there
  pub asked_there : (row : Row) (from to : FileName) → RowAt 0 rows k row → IsStep v k row (PutStep from to) → (w : View) → Same w (done_from 0 rows (λ j. ltb j k) v) → is_some (w (name_text from)) ≡ true
  asked_there (Put name) from to at does w was =
      ap (λ q. is_some (w q)) does.0 ∙ ap (λ o. is_some o) (was (beside k) ∙ still_there 0 rows (λ j. ltb j k) v k (Put name) at (distinct_test rows fine) (below k)) ∙ does.2
  asked_there (Drop name) from to at does w was = absurd does

-- a row that puts
row_named : (v : View) (rows : List Row) (fine : are_rows rows ≡ true) (k : ℕ) (row : Row) (from to : FileName) → RowAt 0 rows k row → IsStep v k row (PutStep from to) → (d : Disk) → IsDoing v rows k d.now → (e : Ending) (d2 : Disk)
    → Rattle.pl_journal.specs.Parts.NamesDisk (name_text from) (name_text to) e d d2 → Keeps d d2 (Midway v rows) × AtDone e (IsDoing v rows (k + 1) d2.now)
row_named v rows fine k row from to at does d doing e d2 = by_ending e
  where
    d1 : Disk
    d1 = is_firm (name_text from) d

    it : (name : Name) × RowAt 0 rows k (Put name) × IsPut v k name (name_text from) (name_text to)
    it = put_step_row v rows k row (PutStep from to) from to refl at does

    firm : Keeps d d1 (Midway v rows)
    firm = keeps_firm_row v rows fine k d doing (name_text from) Done d1 refl

    here : IsDoing v rows k d1.now
    here = at_firm_row v rows fine k d doing (name_text from) d1 refl

    by_ending : (e : Ending) → Rattle.pl_journal.specs.Parts.NamesDisk (name_text from) (name_text to) e d d2 → Keeps d d2 (Midway v rows) × AtDone e (IsDoing v rows (k + 1) d2.now)
    by_ending Done is = (joined d d1 d2 (Midway v rows) firm (keeps_put v rows fine k d1 here (name_text from) (name_text to) it.0 it.1 it.2 Done d2 is), at_put v rows fine k d1 here (name_text from) (name_text to) it.0 it.1 it.2 d2 is)
    by_ending Broken (inl is) = (keeps_firm_row v rows fine k d doing (name_text from) Broken d2 is, tt)
    by_ending Broken (inr is) = (joined d d1 d2 (Midway v rows) firm (keeps_put v rows fine k d1 here (name_text from) (name_text to) it.0 it.1 it.2 Broken d2 is), tt)
    by_ending Undone is = (joined d d1 d2 (Midway v rows) firm (keeps_put v rows fine k d1 here (name_text from) (name_text to) it.0 it.1 it.2 Undone d2 is), tt)

pub steps_put : {e : Ending} {a b : Seen} (from to : FileName) (f t : List ℕ) → f ≡ name_text from → t ≡ name_text to → IsThere a (name_text from) → Calls e (NamesFile f t) a b → Calls e (StepsOn (PutStep from to)) a b
steps_put {e = e} {a = a} {b = b} from to f t f_is t_is there call =
    let at : Calls e (NamesFile (name_text from) (name_text to)) a b = subst (λ q. Calls e (NamesFile q (name_text to)) a b) f_is (subst (λ q. Calls e (NamesFile f q) a b) t_is call) in
    makes_told refl at
    (λ told named. named_view e (name_text from) (name_text to) a.files b.files (there told) named)
    (λ told disk v rows k row fine at_row does doing. row_named v rows fine k row from to at_row does a.disk doing e b.disk disk)

pub steps_drop : {e : Ending} {a b : Seen} (name : FileName) (n : List ℕ) → n ≡ name_text name → Calls e (Does (removes n)) a b → Calls e (StepsOn (DropStep name)) a b
steps_drop {e = e} {a = a} {b = b} name n is call =
    let at : Calls e (Does (removes (name_text name))) a b = subst (λ q. Calls e (Does (removes q)) a b) is call in
    makes_told refl at
    (λ told files. removed_view e (name_text name) a.files b.files files)
    (λ told disk v rows k row fine at_row does doing.
    let it = drop_step_row v rows k row (DropStep name) name refl at_row does in (
      keeps_drop v rows fine k a.disk doing (name_text name) it.0 it.1 it.2 e b.disk disk,
      when_done e (λ done. at_drop v rows fine k a.disk doing (name_text name) it.0 it.1 it.2 b.disk (done_step (state.removed (name_text name)) e a.disk b.disk done disk)),
    ))

pub steps_skip : (a : Seen) → Calls Done (StepsOn Skip) a a
steps_skip a = no_calls Done a refl (λ told n. refl)
    (λ told v rows k row fine at does doing. let it = skip_step_row v rows k row Skip refl at does in (keeps_nothing v rows fine k a.disk doing, at_skip v rows fine k a.disk doing it.0 it.1 it.2))

-- ---- the rows

pub none_stepped : (steps : List Step) (a : Seen) → Calls Done (DoesTo 0 steps) a a
none_stepped steps a = no_calls Done a refl
    (λ told rows fine are n. sym (none_done 0 rows (get a.files) n) ∙ done_agree 0 rows (λ _. false) (λ j. ltb j 0) (get a.files) n (λ j le. below_zero j))
    (λ told v rows fine are doing. (keeps_nothing v rows fine 0 a.disk doing, doing))
  where
    below_zero : (j : ℕ) → false ≡ ltb j 0
    below_zero j = Rattle.std.proofs.Common.sym (Rattle.std.proofs.lemmas.Bool.le-ltb j 0 (omega arith))

-- what is read after one row more
row_read : (e : Ending) (v : View) (rows : List Row) (fine : are_rows rows ≡ true) (k : ℕ) (row : Row) (step : Step) → RowAt 0 rows k row → IsStep v k row step → (x y : Files) → Same (get x) (done_from 0 rows (λ j. ltb j k) v) → ReadsOrNot (stepped step) e x y
    → AtEnd e (Same (get y) (done_from 0 rows (λ j. ltb j (k + 1)) v)) (Midway v rows (get y))
row_read Done v rows fine k row step at does x y was now = next_done v rows fine k row step at does (get x) (get y) was now
row_read Broken v rows fine k row step at does x y was (inl is) = record { keep = λ j. ltb j k; done = λ n. is n ∙ was n }
row_read Broken v rows fine k row step at does x y was (inr now) = record { keep = λ j. ltb j (k + 1); done = next_done v rows fine k row step at does (get x) (get y) was now }
row_read Undone v rows fine k row step at does x y was now = tt

module _ (steps : List Step) (k : ℕ) (step : Step) (lt : k < length steps) (is : step ≡ get_or steps k step) where
  pub step_there : {a b : Seen} → CanDo a steps → Calls Done (DoesTo k steps) a b → CanStep b step
  step_there {a = a} {b = b} can call = by_step step is
    where
      by_step : (s : Step) → s ≡ get_or steps k s → CanStep b s
      by_step (PutStep from to) is = λ told.
          let before = sym call.tells ∙ told in
          let does = can before in
          let it = row_of_first_step (get a.files) does.rows steps k (PutStep from to) does.steps_are lt is in
          asked_there (get a.files) does.rows does.fine k it.0 from to it.1 it.2 (get b.files) (call.files before does.rows does.fine does.steps_are)
      by_step (DropStep name) is = tt
      by_step Skip is = tt

  pub steps_on : {e : Ending} {a b c : Seen} → Calls Done (DoesTo k steps) a b → Calls e (StepsOn step) b c → Calls e (DoesTo (k + 1) steps) a c
  steps_on {e = e} {a = a} {b = b} {c = c} first second = then_told first second
      (λ told one two rows fine are.
      let it = row_of_first_step (get a.files) rows steps k step are lt is in
      row_read e (get a.files) rows fine k it.0 step it.1 it.2 b.files c.files (one rows fine are) two)
      (λ told one two v rows fine are doing.
      let it = row_of_first_step v rows steps k step are lt is in
      let was = one v rows fine are doing in
      let next = two v rows k it.0 fine it.1 it.2 was.1 in
      (joined a.disk b.disk c.disk (Midway v rows) was.0 next.0, next.1))

rows_midway : (X Y Z : Type 0) (e : Ending) → Stops e → AtEnd e X Z → AtEnd e Y Z
rows_midway X Y Z Done stops end = absurd stops
rows_midway X Y Z Broken stops end = end
rows_midway X Y Z Undone stops end = tt

pub rows_stop : {e : Ending} {a b : Seen} (k : ℕ) (steps : List Step) → Stops e → Calls e (DoesTo k steps) a b → Calls e (DoesRows steps) a b
rows_stop {e = e} k steps stops call = makes_told refl call (λ told files rows fine are. rows_midway _ _ _ e stops (files rows fine are)) (λ told disk v rows fine are doing. ((disk v rows fine are doing).0, stopped _ e stops))

pub rows_all : {a b : Seen} (k : ℕ) (steps : List Step) → k ≡ length steps → Calls Done (DoesTo k steps) a b → Calls Done (DoesRows steps) a b
rows_all {a = a} {b = b} k steps all call = subst (λ j. Calls Done (DoesTo j steps) a b) all call

-- ---- the end

abbrev IsSettledDone : View → List Row → State → Type 0
IsSettledDone v rows s = IsClearing v rows s × Same (read s) (done_from 0 rows (λ _. true) v)

abbrev IsWithoutJournal : View → List Row → State → Type 0
IsWithoutJournal v rows s = IsClearing v rows s × Same (read s) (finished v rows)

abbrev pub SettlesRows : Effect
SettlesRows = record { files = SameFiles; disk = λ e old new. (v : View) (rows : List Row) → are_rows rows ≡ true → Goes (IsDoing v rows (length rows)) (Finishing v rows) (IsSettledDone v rows) e old new }

abbrev pub RemovesJournal : Effect
RemovesJournal = record { files = ReadsOrNot without_journal; disk = λ e old new. (v : View) (rows : List Row) → are_rows rows ≡ true → Goes (IsDoing v rows (length rows)) (Finishing v rows) (IsWithoutJournal v rows) e old new }

pub settles_rows : {e : Ending} {a b : Seen} → Calls e (DoesOrNot settles) a b → Calls e SettlesRows a b
settles_rows {e = e} {a = a} {b = b} call = makes_told refl call (λ told same_files. same_files)
    (λ told disk v rows fine doing. (keeps_settle_rows v rows fine a.disk doing e b.disk disk, when_done e (λ is. at_settle_rows v rows fine a.disk doing b.disk (done_step_or_not state.settled e a.disk b.disk is disk))))

pub settles_rows_stop : {e : Ending} {a b : Seen} → Stops e → Calls e SettlesRows a b → Calls e Finishes a b
settles_rows_stop {e = e} {a = a} {b = b} stops call = makes_told refl call (λ told files. read_not without_journal e a.files b.files stops (same_view files)) (λ told disk v rows fine doing. ((disk v rows fine doing).0, stopped _ e stops))

pub removes_journal : {e : Ending} {a b c : Seen} → Calls Done SettlesRows a b → Calls e (Does (removes journal)) b c → Calls e RemovesJournal a c
removes_journal {e = e} {a = a} {b = b} {c = c} first second = then_told first second
    (λ told one two. subst (λ (f : Files). ReadsOrNot without_journal e f c.files) one (removed_view e journal b.files c.files two))
    (λ told one two v rows fine doing.
    let was = one v rows fine doing in (
      joined a.disk b.disk c.disk (Finishing v rows) was.0 (to_finishing v rows fine b.disk c.disk (keeps_remove v rows fine b.disk was.1.0 journal refl e c.disk two)),
      when_done e (λ done.
          let at = done_step (state.removed journal) e b.disk c.disk done two in (
            at_remove v rows fine b.disk was.1.0 journal refl c.disk at,
            λ n. ap (λ (d : Disk). read d.now n) at ∙ removed_reads journal b.disk.now n ∙ ap (λ r. cond (same n journal) None r) (was.1.1 n),
          )),
    ))

pub removes_journal_stop : {e : Ending} {a b : Seen} → Stops e → Calls e RemovesJournal a b → Calls e Finishes a b
removes_journal_stop {e = e} stops call = makes_told refl call (λ told files. files) (λ told disk v rows fine doing. ((disk v rows fine doing).0, stopped _ e stops))

pub finishes_on : {e : Ending} {a b c : Seen} → Calls Done RemovesJournal a b → Calls e (DoesOrNot settles) b c → Calls e Finishes a c
finishes_on {e = e} {a = a} {b = b} {c = c} first second = then_told first second
    (λ told one two. read_done without_journal e a.files c.files (λ n. same_view two n ∙ one n))
    (λ told one two v rows fine doing.
    let was = one v rows fine doing in (
      joined a.disk b.disk c.disk (Finishing v rows) was.0 (to_finishing v rows fine b.disk c.disk (keeps_settle_clear v rows fine b.disk was.1.0 e c.disk two)),
      when_done e (λ is. subst (λ (d : Disk). IsFinished v rows d.now) (sym (done_step_or_not state.settled e b.disk c.disk is two)) (settled_whole b.disk.now was.1.0.whole, settled_within b.disk.now (Same (finished v rows)) (λ n. sym (was.1.1 n)))),
    ))
