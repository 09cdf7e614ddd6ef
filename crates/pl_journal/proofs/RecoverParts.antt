-- The calls of a recovery, as parts.
use Rattle.std.proofs.Common.{◌≡◌, ◌≢◌, ◌⊎◌, inl, inr, ⊎_elim, ℕ, ◌<◌, ◌≤◌, ◌&&◌, ◌||◌, Bool, true, false, cond, List, [], ◌∷◌, length, map, Option, Some, None, is_some, refl, sym, ◌∙◌, ap, subst, arith, Result, Ok, Err, OnOk, IfErr, IfOk}
use Rattle.std.specs.Prelude.{String, string_bytes, nat_le}
use Rattle.std.specs.FinMap.{get, keys}
use Rattle.std.specs.FinMap as finite
use Rattle.std.specs.declared.alloc.Global.{Global}
use Rattle.std.proofs.lemmas.Bool.{both_ways, cases_Bool, cond-true, cond-false, leb-false}
use Rattle.pl_base.specs.Files.{Files}
use Rattle.pl_folder.specs.Calls.{Calls, IsPlain}
use Rattle.pl_folder.specs.Disk.{Name, View, State, Disk, after, read, same}
use Rattle.pl_folder.specs.Effects.{Does, DoesOrNot, Effect, Idles, StepsDisk, StepsDiskOrNot, StepsFiles, removes, settles}
use Rattle.pl_folder.specs.Seen.{Seen, Ending, Done, Broken, Undone, IsFolder, fault_ending, is_broken}
use Rattle.pl_folder.specs.Since.{Keeps}
use Rattle.pl_folder.specs.States as state
use Rattle.pl_folder.specs.Taken.{taken, stored}
use Rattle.pl_folder.specs.declared.TheConstants.{STORED}
use Rattle.pl_folder.specs.declared.fault.FolderFault.{FolderFault}
use Rattle.pl_folder.specs.declared.fault.FolderFault.TheVariants as folder
use Rattle.pl_journal.specs.Faults.{journal_ending, of_folder, part_ending}
use Rattle.pl_journal.specs.Leaves.{IsCalm, Looks, OwnAreIn, RecoversDisk, fault_of}
use Rattle.pl_journal.specs.Lists.{IsListOf, any_own, is_listed, texts}
use Rattle.pl_journal.specs.Meaning.{Same, StandsFor}
use Rattle.pl_journal.specs.Names.{is_journal_name, journal}
use Rattle.pl_journal.specs.Parts.{AreNames, AtDone, AtEnd, DoRows, DoesJournal, DoesJournalOf, DoesRows, CanDo, IsAtRest, IsRested, Looking, Recovers, RecoversSettled, RemovesIfOwn, RemovesOwn, RemovesTo, StepsSpelled, StillClears, without_own, without_owns}
use Rattle.pl_journal.specs.Phases.{AreSteps, Clearing, IsClearing, IsDoing, Midway}
use Rattle.pl_journal.specs.Reading.{rows_spelled}
use Rattle.pl_journal.specs.Rows.{clean, done_from, rows_in, rows_of}
use Rattle.pl_journal.specs.Spelling.{are_rows}
use Rattle.pl_journal.specs.declared.fault.JournalFault.{JournalFault}
use Rattle.pl_journal.specs.declared.fault.JournalFault.TheVariants.{Failed, BadJournal, NoMemory}
use Rattle.pl_journal.specs.declared.row.Row.{Row}
use Rattle.pl_journal.specs.declared.step.Step.{Step}
use Rattle.pl_journal.proofs.CarryLemmas.{rows_in_distinct, settled_read, too_long}
use Rattle.pl_journal.proofs.Done.{distinct_test, recovered_by}
use Rattle.pl_journal.proofs.Endings.{Stops, at_done, makes_told, no_calls, stopped, then_told, when_done}
use Rattle.pl_journal.proofs.FileViews.{get_removed, listed, one_view, read_files}
use Rattle.pl_journal.proofs.Meanings.{clearing_stands, midway_stands, nothing_recovered, recovered_no_own, stands_self}
use Rattle.pl_journal.proofs.Moments.{joined, starts, weaker}
use Rattle.pl_journal.proofs.NameLemmas.{equal}
use Rattle.pl_journal.proofs.Phases.{all_clearing, as_many, at_remove, below_rows, clearing_cut, keeps_remove}
use Rattle.pl_journal.proofs.RecoverLemmas.{calm_at, calm_clearing, calm_doing, calm_listed, calm_reads, calm_recovered, calm_self, calm_settled, clearing_all, last_at, last_keeps, looks_keep, no_look, no_own_of, not_listed, own_done, passed_listed, recovers_first, removed_listed, settle_at, settle_keeps, waits_look}

done_or_not : (step : State → State) (x y : Disk) → StepsDiskOrNot step Done x y → y ≡ after (step x.now) x
done_or_not step x y is = is

-- files that are as they were stand for what they stood for
unchanged : {x y : Files} → y ≡ x → StandsFor (get x) (get y)
unchanged {x = x} {y = y} is = stands_self (get x) (get y) (λ n. ap (λ (f : Files). get f n) is)

-- calls that only read, as a part
pub looking : {e f : Ending} {a b : Seen} → is_broken e ≡ is_broken f → Calls e Idles a b → Calls f Looking a b
looking {e = e} {a = a} {b = b} quiet call = makes_told quiet call (λ told files. files) (λ told waits. waits_look e a.disk b.disk waits)

pub plain_quiet : {X : Type 0} (r : Result X JournalFault) → IfErr r (λ fault. fault ≢ Failed) → is_broken Done ≡ is_broken (part_ending r)
plain_quiet (Ok x) plain = refl
plain_quiet (Err Failed) plain = absurd (plain refl)
plain_quiet (Err BadJournal) plain = refl
plain_quiet (Err NoMemory) plain = refl

-- ---- the journal as it is taken

pub no_journal_steps : (v : View) → v journal ≡ None → DoesJournalOf [] v
no_journal_steps v none = record { rows = []; spelled = ap rows_in none; steps_are = tt }

none_stored : (o : Option (List ℕ)) → stored o ≡ Err folder.NotThere → o ≡ None
none_stored None is = refl
none_stored (Some bytes) is = by_test (nat_le (length bytes) STORED) is
  where
    by_test : (b : Bool) → cond b (Ok bytes) (Err folder.TooLarge) ≡ Err folder.NotThere → Some bytes ≡ None
    by_test true e = let no : ⊥ = cc in absurd no
    by_test false e = let no : ⊥ = cc in absurd no

pub not_there_steps : (files : Files) → taken files journal ≡ Err folder.NotThere → DoesJournalOf [] (get files)
not_there_steps files is = no_journal_steps (get files) (none_stored (get files journal) is)

large_rows : (o : Option (List ℕ)) → stored o ≡ Err folder.TooLarge → rows_in o ≡ None
large_rows None is = let no : ⊥ = cc in absurd no
large_rows (Some bytes) is = by_test (nat_le (length bytes) STORED) refl is
  where
    by_test : (b : Bool) → nat_le (length bytes) STORED ≡ b → cond b (Ok bytes) (Err folder.TooLarge) ≡ Err folder.TooLarge → rows_of bytes ≡ None
    by_test true long e = let no : ⊥ = cc in absurd no
    by_test false long e = too_long bytes (leb-false _ _ long)

pub too_large_rows : (files : Files) → taken files journal ≡ Err folder.TooLarge → rows_in (get files journal) ≡ None
too_large_rows files is = large_rows (get files journal) is

ok_stored : (o : Option (List ℕ)) (bytes : List ℕ) → stored o ≡ Ok bytes → rows_in o ≡ rows_spelled bytes
unfolding rows_of
ok_stored None bytes is = let no : ⊥ = cc in absurd no
ok_stored (Some found) bytes is = by_test (nat_le (length found) STORED) refl is
  where
    by_test : (b : Bool) → nat_le (length found) STORED ≡ b → cond b (Ok found) (Err folder.TooLarge) ≡ Ok bytes → rows_of found ≡ rows_spelled bytes
    by_test true fits e =
        let one : found ≡ bytes = cc in
        cond-false (Rattle.std.proofs.Common.ltb STORED (length found)) _ _ (Rattle.std.proofs.lemmas.Bool.le-ltb _ _ (Rattle.std.proofs.lemmas.Bool.leb-true _ _ fits)) ∙ ap rows_spelled one
    by_test false fits e = let no : ⊥ = cc in absurd no

pub taken_steps : (files : Files) (bytes slice : List ℕ) (names : List Name) (steps : List Step) → taken files journal ≡ Ok bytes → slice ≡ bytes → StepsSpelled slice names steps → IsListOf names (get files) → DoesJournalOf steps (get files)
taken_steps files bytes slice names steps is same_bytes of are = record {
  rows = of.rows;
  spelled = ok_stored (get files journal) bytes is ∙ ap rows_spelled (sym same_bytes) ∙ of.spelled;
  steps_are = of.steps_are (get files) are;
}

pub taken_bad : (files : Files) (bytes slice : List ℕ) → taken files journal ≡ Ok bytes → slice ≡ bytes → rows_spelled slice ≡ None → rows_in (get files journal) ≡ None
taken_bad files bytes slice is same_bytes none = ok_stored (get files journal) bytes is ∙ ap rows_spelled (sym same_bytes) ∙ none

pub ok_taken : (r : Result (List Step) JournalFault) (tells : Bool) (files : Files) (bytes slice : List ℕ) (names : List Name) → (tells ≡ true → taken files journal ≡ Ok bytes) → slice ≡ bytes → IfOk r (StepsSpelled slice names)
    → IfOk r (λ steps. tells ≡ true → IsListOf names (get files) → DoesJournalOf steps (get files))
ok_taken (Ok steps) tells files bytes slice names is same_bytes of = λ told are. taken_steps files bytes slice names steps (is told) same_bytes of are
ok_taken (Err fault) tells files bytes slice names is same_bytes of = tt

pub bad_taken : (r : Result (List Step) JournalFault) (tells : Bool) (files : Files) (bytes slice : List ℕ) → (tells ≡ true → taken files journal ≡ Ok bytes) → slice ≡ bytes → IfErr r (λ fault. fault ≡ BadJournal → rows_spelled slice ≡ None)
    → IfErr r (λ fault. fault ≡ BadJournal → tells ≡ true → rows_in (get files journal) ≡ None)
bad_taken (Ok steps) tells files bytes slice is same_bytes none = tt
bad_taken (Err fault) tells files bytes slice is same_bytes none = λ bad told. taken_bad files bytes slice (is told) same_bytes (none bad)

-- ---- from a folder whose names are these

module _ (names : List Name) (a : Seen) (law : IsFolder a) (are : AreNames a names) where
  -- what is seen of a folder that reads as v
  seen_so : a.records ≡ true → (v : View) → IsCalm v a.disk.now → get a.files ≡ v
  seen_so told v calm = read_files a law told ∙ one_view (read a.disk.now) v (calm_reads v a.disk.now calm)

  names_so : a.records ≡ true → (v : View) → IsCalm v a.disk.now → IsListOf names v
  names_so told v calm = subst (IsListOf names) (seen_so told v calm) (are (law.tells told))

  -- no journal is there
  pub without_journal : is_listed journal names ≡ false → Calls Done (DoesJournal names None) a a
  without_journal off = no_calls Done a refl
      (λ told. ([], ap rows_in (not_listed (get a.files) names (are told) off), λ n. refl))
      (λ told v calm all. (
        [],
        ap rows_in (not_listed v names all off),
        starts a.disk (StandsFor v) (calm_self v a.disk.now calm),
        calm_clearing v a.disk.now calm,
        calm_listed v a.disk.now names all calm,
      ))

  -- it has no steps
  pub steps_stop : (fault : JournalFault) → (fault ≡ BadJournal → a.tells ≡ true → rows_in (get a.files journal) ≡ None) → {b : Seen} → Calls (journal_ending fault) Looking a b → Calls (journal_ending fault) (DoesJournal names (Some fault)) a b
  steps_stop Failed bad {b = b} call = makes_told refl call (λ told files. unchanged files) (λ told looks v calm all. looks_keep a.disk b.disk (StandsFor v) (calm_self v a.disk.now calm) looks)
  steps_stop BadJournal bad {b = b} call = makes_told refl call (λ told files. (bad refl told, files))
      (λ told looks v calm all. (looks_keep a.disk b.disk (Same v) calm.only looks, ap (λ (w : View). rows_in (w journal)) (sym (seen_so told v calm)) ∙ bad refl (law.tells told)))
  steps_stop NoMemory bad {b = b} call = makes_told refl call (λ told files. files) (λ told looks v calm all. looks_keep a.disk b.disk (StandsFor v) (calm_self v a.disk.now calm) looks)

  module _ (steps : List Step) (does : a.tells ≡ true → DoesJournalOf steps (get a.files)) where
    pub does_so : a.records ≡ true → (v : View) → IsCalm v a.disk.now → DoesJournalOf steps v
    does_so told v calm = subst (DoesJournalOf steps) (seen_so told v calm) (does (law.tells told))

    pub can_do : {b : Seen} → Calls Done Looking a b → CanDo b steps
    can_do {b = b} call told =
        let before = sym call.tells ∙ told in
        let it = does before in
        subst (λ (f : Files). DoRows steps (get f)) (sym (call.files before)) (record { rows = it.rows; fine = rows_in_distinct (get a.files journal) it.rows it.spelled; steps_are = it.steps_are })

    -- the rows are done
    abbrev pub RowsOn : Effect
    RowsOn = record {
      files = λ e old new. (told : a.tells ≡ true) → AtEnd e (Same (get new) (done_from 0 (does told).rows (λ _. true) (get a.files))) (StandsFor (get a.files) (get new));
      disk = λ e old new. (told : a.records ≡ true) (v : View) (calm : IsCalm v a.disk.now) → Keeps a.disk new (StandsFor v) × AtDone e (IsDoing v (does_so told v calm).rows (length (does_so told v calm).rows) new.now);
    }

    all_rows : (rows : List Row) (old new : View) → AreSteps old 0 rows steps → Same new (done_from 0 rows (λ j. Rattle.std.proofs.Common.ltb j (length steps)) old) → Same new (done_from 0 rows (λ _. true) old)
    all_rows rows old new are reads n = reads n ∙ ap (λ k. done_from 0 rows (λ j. Rattle.std.proofs.Common.ltb j k) old n) (as_many old 0 rows steps are) ∙ below_rows rows old n

    rows_end : (e : Ending) (rows : List Row) → rows_in (get a.files journal) ≡ Some rows → are_rows rows ≡ true → AreSteps (get a.files) 0 rows steps → (new : View)
        → AtEnd e (Same new (done_from 0 rows (λ j. Rattle.std.proofs.Common.ltb j (length steps)) (get a.files))) (Midway (get a.files) rows new) → AtEnd e (Same new (done_from 0 rows (λ _. true) (get a.files))) (StandsFor (get a.files) new)
    rows_end Done rows spelled fine are new done = all_rows rows (get a.files) new are done
    rows_end Broken rows spelled fine are new part = midway_stands (get a.files) rows spelled (distinct_test rows fine) new part
    rows_end Undone rows spelled fine are new end = tt

    pub rows_on : {e : Ending} {b c : Seen} → Calls Done Looking a b → Calls e (DoesRows steps) b c → Calls e RowsOn a c
    rows_on {e = e} {b = b} {c = c} first second = then_told first second
        (λ told one two again.
        let it = does again in
        let fine = rows_in_distinct (get a.files journal) it.rows it.spelled in
        let done = subst (λ (f : Files). (DoesRows steps).files e f c.files) one two it.rows fine it.steps_are in
        rows_end e it.rows it.spelled fine it.steps_are (get c.files) done)
        (λ told one two again v calm.
        let it = does_so again v calm in
        let fine = rows_in_distinct (v journal) it.rows it.spelled in
        let done = two v it.rows fine it.steps_are (calm_doing v it.rows b.disk.now (calm_at v a.disk b.disk one calm)) in (
          joined a.disk b.disk c.disk (StandsFor v) (looks_keep a.disk b.disk (StandsFor v) (calm_self v a.disk.now calm) one)
              (weaker b.disk c.disk (Midway v it.rows) (StandsFor v) (midway_stands v it.rows it.spelled (distinct_test it.rows fine)) done.0),
          at_done e (λ now. subst (λ k. IsDoing v it.rows k c.disk.now) (as_many v 0 it.rows steps it.steps_are) now) done.1,
        ))

    pub rows_failed : {c : Seen} → Calls Broken RowsOn a c → Calls Broken (DoesJournal names (Some Failed)) a c
    rows_failed call = makes_told refl call (λ told files. files told) (λ told disk v calm all. (disk told v calm).0)

    pub settle_failed : {b c : Seen} → Calls Done RowsOn a b → Calls Broken (DoesOrNot settles) b c → Calls Broken (DoesJournal names (Some Failed)) a c
    settle_failed {b = b} {c = c} first second = then_told first second
        (λ told one two.
        let it = does told in
        midway_stands (get a.files) it.rows it.spelled (distinct_test it.rows (rows_in_distinct (get a.files journal) it.rows it.spelled)) (get c.files) (record { keep = λ _. true; done = λ n. ap (λ (f : Files). get f n) two ∙ one told n }))
        (λ told one two v calm all.
        let was = one told v calm in
        let it = does_so told v calm in
        joined a.disk b.disk c.disk (StandsFor v) was.0 (settle_keeps v it.rows it.spelled b.disk was.1 Broken c.disk two))

    pub journal_done : {b c : Seen} → Calls Done RowsOn a b → Calls Done (DoesOrNot settles) b c → Calls Done (DoesJournal names None) a c
    journal_done {b = b} {c = c} first second = then_told first second
        (λ told one two. let it = does told in (it.rows, it.spelled, λ n. ap (λ (f : Files). get f n) two ∙ one told n))
        (λ told one two v calm all.
        let was = one told v calm in
        let it = does_so told v calm in
        let ends = settle_at v it.rows it.spelled b.disk was.1 names all c.disk two in
        (it.rows, it.spelled, joined a.disk b.disk c.disk (StandsFor v) was.0 (settle_keeps v it.rows it.spelled b.disk was.1 Done c.disk two), ends.0, ends.1))

-- ---- own names go

pub passes_name : (name : List ℕ) → is_journal_name name ≡ false → (a : Seen) → Calls Done (RemovesIfOwn name) a a
passes_name name valid a = no_calls Done a refl
    (λ told. ((λ n. sym (cond-false (is_journal_name name && same n name) None (get a.files n) (ap (λ b. b && same n name) valid))), λ v rows fine clearing. clearing))
    (λ told. ((λ v rows fine clearing. (starts a.disk (Clearing v rows) clearing.within, clearing)), λ names all. passed_listed name names a.disk.now valid all))

still_clears : (e : Ending) (name : List ℕ) → is_journal_name name ≡ true → (x y : Files) → StepsFiles (λ files. finite.remove files name) e x y → StillClears x y
still_clears e name own x y step v rows fine clearing = by_ending e step
  where
    as_before : y ≡ x → Clearing v rows (get y)
    as_before is = subst (λ (f : Files). Clearing v rows (get f)) (sym is) clearing

    gone : y ≡ finite.remove x name → Clearing v rows (get y)
    gone is = clearing_cut v rows (distinct_test rows fine) name own (get x) (get y) (λ n. ap (λ (f : Files). get f n) is ∙ get_removed x name n) clearing

    by_ending : (e : Ending) → StepsFiles (λ files. finite.remove files name) e x y → Clearing v rows (get y)
    by_ending Done is = gone is
    by_ending Broken (inl is) = as_before is
    by_ending Broken (inr is) = gone is
    by_ending Undone is = as_before is

pub removes_name : {e : Ending} {a b : Seen} (name : List ℕ) → is_journal_name name ≡ true → Calls e (Does (removes name)) a b → Calls e (RemovesIfOwn name) a b
removes_name {e = e} {a = a} {b = b} name own call = makes_told refl call
    (λ told files. (
      when_done e (λ done n.
          let gone : b.files ≡ finite.remove a.files name = subst (λ f. StepsFiles (λ fs. finite.remove fs name) f a.files b.files) done files in
          ap (λ (f : Files). get f n) gone ∙ get_removed a.files name n ∙ sym (ap (λ c. cond (c && same n name) None (get a.files n)) own)),
      still_clears e name own a.files b.files files,
    ))
    (λ told disk. (
      λ v rows fine clearing. (keeps_remove v rows fine a.disk clearing name own e b.disk disk, when_done e (λ done. at_remove v rows fine a.disk clearing name own b.disk (subst (λ f. StepsDisk (state.removed name) f a.disk b.disk) done disk))),
      λ names all. when_done e (λ done. subst (λ (d : Disk). OwnAreIn names d.now) (sym (subst (λ f. StepsDisk (state.removed name) f a.disk b.disk) done disk)) (removed_listed name names a.disk.now all)),
    ))

pub none_removed : (names : List Name) (a : Seen) → Calls Done (RemovesTo names names) a a
none_removed names a = no_calls Done a refl (λ told. ((λ n. refl), λ v rows fine clearing. clearing)) (λ told. ((λ v rows fine clearing. (starts a.disk (Clearing v rows) clearing.within, clearing)), λ all. all))

one_more_name : (name : Name) (rest : List Name) (v : View) (n : Name) → without_owns rest (without_own name v) n ≡ without_owns (name ∷ rest) v n
one_more_name name rest v n = ⊎_elim
    (λ hit.
    let both : is_journal_name n ≡ is_journal_name name = ap is_journal_name (equal n name hit) in
    ap (λ s. cond (is_journal_name n && is_listed n rest) None (cond (is_journal_name name && s) None (v n))) hit
    ∙ ap (λ o. cond (is_journal_name n && is_listed n rest) None (cond (o && true) None (v n))) (sym both)
    ∙ dropped (is_journal_name n) (is_listed n rest) (v n)
    ∙ sym (ap (λ s. cond (is_journal_name n && (s || is_listed n rest)) None (v n)) hit))
    (λ missed.
    ap (λ s. cond (is_journal_name n && is_listed n rest) None (cond (is_journal_name name && s) None (v n))) missed
    ∙ kept (is_journal_name name) (is_journal_name n && is_listed n rest) (v n)
    ∙ sym (ap (λ s. cond (is_journal_name n && (s || is_listed n rest)) None (v n)) missed))
    (cases_Bool (same n name))
  where
    dropped : (o l : Bool) (x : Option (List ℕ)) → cond (o && l) None (cond (o && true) None x) ≡ cond (o && true) None x
    dropped true true x = refl
    dropped true false x = refl
    dropped false l x = refl

    kept : (o t : Bool) (x : Option (List ℕ)) → cond t None (cond (o && false) None x) ≡ cond t None x
    kept true t x = refl
    kept false t x = refl

pub removes_on : {e : Ending} {a b c : Seen} (names : List Name) (name : Name) (rest : List Name) → Calls Done (RemovesTo names (name ∷ rest)) a b → Calls e (RemovesIfOwn name) b c → Calls e (RemovesTo names rest) a c
removes_on {e = e} {a = a} {b = b} {c = c} names name rest first second = then_told first second
    (λ told one two. (at_done e (λ reads n. ap (λ (v : View). without_owns rest v n) (one_view _ _ reads) ∙ one_more_name name rest (get b.files) n ∙ one.0 n) two.0, λ v rows fine clearing. two.1 v rows fine (one.1 v rows fine clearing)))
    (λ told one two. (
      λ v rows fine clearing.
          let was = one.0 v rows fine clearing in
          let next = two.0 v rows fine was.1 in
          (joined a.disk b.disk c.disk (Clearing v rows) was.0 next.0, next.1),
      λ all. two.1 rest (one.1 all),
    ))

pub removes_stop : {e : Ending} {a b : Seen} (names left : List Name) → Stops e → Calls e (RemovesTo names left) a b → Calls e (RemovesOwn names) a b
removes_stop {e = e} names left stops call = makes_told refl call (λ told files. (stopped _ e stops, files.1)) (λ told disk. ((λ v rows fine clearing. ((disk.0 v rows fine clearing).0, stopped _ e stops)), λ all. stopped _ e stops))

-- ---- from a settled folder

-- without own names it is as it was read
cleared_clean : (names : List Name) (v : View) (rows : List Row) → are_rows rows ≡ true → IsListOf names v → (n : Name) → without_owns names (done_from 0 rows (λ _. true) v) n ≡ clean (done_from 0 rows (λ _. true) v) n
cleared_clean names v rows fine are n = ⊎_elim
    (λ own.
    ap (λ o. cond (o && is_listed n names) None (done_from 0 rows (λ _. true) v n)) own
    ∙ by_listed own (is_listed n names) (are n)
    ∙ sym (cond-true (is_journal_name n) _ _ own))
    (λ valid. ap (λ o. cond (o && is_listed n names) None (done_from 0 rows (λ _. true) v n)) valid ∙ sym (cond-false (is_journal_name n) _ _ valid))
    (cases_Bool (is_journal_name n))
  where
    none_of : (o : Option (List ℕ)) → (is_some o ≡ true → ⊥) → o ≡ None
    none_of None never = refl
    none_of (Some x) never = absurd (never refl)

    by_listed : is_journal_name n ≡ true → (b : Bool) → b ≡ is_some (v n) → cond b None (done_from 0 rows (λ _. true) v n) ≡ None
    by_listed own true is = refl
    by_listed own false is = none_of (done_from 0 rows (λ _. true) v n) (λ some. both_ways (is_some (v n)) (sym is) (own_done 0 rows (λ _. true) v (distinct_test rows fine) n own some))

-- the rows are done, and own names are gone
pub record Emptied (v : View) (e : Ending) (old new : Disk) : Type 0 where
  pub rows : List Row
  pub spelled : rows_in (v journal) ≡ Some rows
  pub keeps : Keeps old new (StandsFor v)
  pub clearing : AtDone e (IsClearing v rows new.now)
  pub own : AtDone e (OwnAreIn [] new.now)

module _ (names : List Name) (a : Seen) (law : IsFolder a) (are : AreNames a names) where
  pub journal_stops : (fault : JournalFault) {b : Seen} → Calls (journal_ending fault) (DoesJournal names (Some fault)) a b → Calls (journal_ending fault) (RecoversSettled (Some fault)) a b
  journal_stops Failed call = makes_told refl call (λ told files. files) (λ told disk v calm. disk v calm (names_so names a law are told v calm))
  journal_stops BadJournal call = makes_told refl call (λ told files. files) (λ told disk v calm. disk v calm (names_so names a law are told v calm))
  journal_stops NoMemory call = makes_told refl call (λ told files. files) (λ told disk v calm. disk v calm (names_so names a law are told v calm))

  -- the rows are done, and own names are gone
  abbrev pub OwnGone : Effect
  OwnGone = record {
    files = λ e old new. (rows : List Row) × (rows_in (get old journal) ≡ Some rows) × AtDone e (Same (get new) (without_owns names (done_from 0 rows (λ _. true) (get old)))) × StandsFor (get old) (get new);
    disk = λ e old new. (v : View) → IsCalm v old.now → IsListOf names v → Emptied v e old new;
  }

  own_stands : (rows : List Row) → rows_in (get a.files journal) ≡ Some rows → (w : View) → Same w (done_from 0 rows (λ _. true) (get a.files)) → (new : View) → (Clearing (get a.files) rows w → Clearing (get a.files) rows new) → StandsFor (get a.files) new
  own_stands rows spelled w is new goes =
      let apart = distinct_test rows (rows_in_distinct (get a.files journal) rows spelled) in
      clearing_stands (get a.files) rows spelled apart new (goes (all_clearing (get a.files) rows apart w is))

  pub own_gone : {e : Ending} {b c : Seen} → Calls Done (DoesJournal names None) a b → Calls e (RemovesOwn names) b c → Calls e OwnGone a c
  own_gone {e = e} {b = b} {c = c} first second = then_told first second
      (λ told one two. (one.0, one.1, at_done e (λ reads n. reads n ∙ ap (λ (v : View). without_owns names v n) (one_view _ _ one.2)) (emptied told two.0), own_stands one.0 one.1 (get b.files) one.2 (get c.files) (two.1 (get a.files) one.0 (rows_in_distinct (get a.files journal) one.0 one.1))))
      (λ told one two v calm all.
      let was = one v calm all in
      let fine = rows_in_distinct (v journal) was.0 was.1 in
      let next = two.0 v was.0 fine was.3 in
      record {
        rows = was.0;
        spelled = was.1;
        keeps = joined a.disk b.disk c.disk (StandsFor v) was.2 (clearing_all v was.0 was.1 b.disk c.disk next.0);
        clearing = next.1;
        own = two.1 was.4;
      })
    where
      emptied : a.tells ≡ true → AtDone e (Same (without_owns [] (get c.files)) (without_owns names (get b.files))) → AtDone e (Same (get c.files) (without_owns names (get b.files)))
      emptied told reads = at_done e (λ is n. sym (cond-false (is_journal_name n && false) None (get c.files n) (Rattle.std.proofs.lemmas.Bool.and_right (is_journal_name n) false refl)) ∙ is n) reads

  pub gone_failed : {b : Seen} → Calls Broken OwnGone a b → Calls Broken (RecoversSettled (Some Failed)) a b
  gone_failed call = makes_told refl call (λ told files. files.3) (λ told disk v calm. (disk v calm (names_so names a law are told v calm)).keeps)

  pub end_failed : {b c : Seen} → Calls Done OwnGone a b → Calls Broken (DoesOrNot settles) b c → Calls Broken (RecoversSettled (Some Failed)) a c
  end_failed {b = b} {c = c} first second = then_told first second (λ told one two. subst (λ (f : Files). StandsFor (get a.files) (get f)) (sym two) one.3)
      (λ told one two v calm.
      let was = one v calm (names_so names a law are told v calm) in
      joined a.disk b.disk c.disk (StandsFor v) was.keeps (last_keeps v was.rows was.spelled b.disk was.clearing Broken c.disk two))

  pub recovered_named : {b c : Seen} → Calls Done OwnGone a b → Calls Done (DoesOrNot settles) b c → Calls Done (RecoversSettled None) a c
  recovered_named {b = b} {c = c} first second = then_told first second
      (λ told one two. (
        one.0,
        one.1,
        λ n. ap (λ (f : Files). get f n) two ∙ one.2 n ∙ cleared_clean names (get a.files) one.0 (rows_in_distinct (get a.files journal) one.0 one.1) (are told) n ∙ sym (recovered_by (get a.files) one.0 one.1 n),
      ))
      (λ told one two v calm.
      let was = one v calm (names_so names a law are told v calm) in (
        joined a.disk b.disk c.disk (StandsFor v) was.keeps (last_keeps v was.rows was.spelled b.disk was.clearing Done c.disk two),
        last_at v was.rows was.spelled b.disk was.clearing was.own c.disk two,
      ))

  -- nothing to recover
  pub nothing_here : any_own names ≡ false → Calls Done (RecoversSettled None) a a
  nothing_here none = no_calls Done a refl
      (λ told.
      let no_own = no_own_of (get a.files) names (are told) none in
      ([], ap rows_in (no_own journal refl), λ n. sym (nothing_recovered (get a.files) no_own n)))
      (λ told v calm.
      let no_own = no_own_of v names (names_so names a law are told v calm) none in
      (looks_keep a.disk a.disk (StandsFor v) (calm_self v a.disk.now calm) (no_look a.disk a.disk refl), calm_recovered v a.disk.now calm no_own))

-- ---- the names are asked for

pub names_stop : (fault : FolderFault) → IsPlain fault → {a b : Seen} → Calls (fault_ending fault) Idles a b → Calls (journal_ending (of_folder fault)) (RecoversSettled (Some (of_folder fault))) a b
names_stop folder.Failed plain {a = a} {b = b} call = makes_told refl call (λ told files. unchanged files) (λ told waits v calm. looks_keep a.disk b.disk (StandsFor v) (calm_self v a.disk.now calm) (waits_look Broken a.disk b.disk waits))
names_stop folder.NotThere plain call = absurd plain
names_stop folder.TooLarge plain call = absurd plain
names_stop folder.NoMemory plain {a = a} {b = b} call = makes_told refl call (λ told files. files) (λ told waits v calm. looks_keep a.disk b.disk (StandsFor v) (calm_self v a.disk.now calm) (waits_look Undone a.disk b.disk waits))

-- the names that were asked for
pub names_after : {a b : Seen} (names slice : List (String Global)) → Calls Done Idles a b → (a.tells ≡ true → map string_bytes names ≡ keys a.files) → slice ≡ names → AreNames b (texts slice)
names_after {a = a} {b = b} names slice call are is told =
    let before = sym call.tells ∙ told in
    subst (λ (f : Files). IsListOf (texts slice) (get f)) (sym (call.files before)) (subst (λ (ns : List (String Global)). IsListOf (texts ns) (get a.files)) (sym is) (listed names a.files (are before)))

-- where nothing is to be recovered the disk is as it was, a moment later
pub quiet_names : {a b c : Seen} → IsFolder a → Calls Done Idles a b → (IsRested b → b.tells ≡ true → c ≡ b) → IsRested a → a.records ≡ true → c.disk ≡ after a.disk.now a.disk
quiet_names {a = a} {b = b} {c = c} law call quiet rested told =
    let tells = law.tells told in
    let here : IsRested b = λ t n own. ap (λ (f : Files). get f n) (call.files tells) ∙ rested tells n own in
    ap (λ (s : Seen). s.disk) (quiet here (call.tells ∙ tells)) ∙ call.disk told

pub ok_any : {X E : Type 0} (P : Type 0) (r : Result X E) → P → OnOk r P
ok_any P (Ok x) p = p
ok_any P (Err e) p = tt

recovers_after : (fault : Option JournalFault) (v : View) (x y z : Disk) → IsCalm v x.now → Looks x y → RecoversDisk fault v y z → RecoversDisk fault v x z
recovers_after None v x y z calm looks all = (joined x y z (StandsFor v) (looks_keep x y (StandsFor v) (calm_self v x.now calm) looks) all.0, all.1)
recovers_after (Some Failed) v x y z calm looks all = joined x y z (StandsFor v) (looks_keep x y (StandsFor v) (calm_self v x.now calm) looks) all
recovers_after (Some BadJournal) v x y z calm looks all = (joined x y z (Same v) (looks_keep x y (Same v) calm.only looks) all.0, all.1)
recovers_after (Some NoMemory) v x y z calm looks all = joined x y z (StandsFor v) (looks_keep x y (StandsFor v) (calm_self v x.now calm) looks) all

pub names_then : {e : Ending} (fault : Option JournalFault) {a b c : Seen} → Calls Done Idles a b → Calls e (RecoversSettled fault) b c → Calls e (RecoversSettled fault) a c
names_then {e = e} fault {a = a} {b = b} {c = c} first second = then_told first second
    (λ told one two. subst (λ (f : Files). (RecoversSettled fault).files e f c.files) one two)
    (λ told one two v calm.
    let looks = waits_look Done a.disk b.disk one in
    recovers_after fault v a.disk b.disk c.disk calm looks (two v (calm_at v a.disk b.disk looks calm)))

-- ---- from any folder

pub settle_stops : {a b : Seen} → Calls Broken (DoesOrNot settles) a b → Calls Broken (Recovers (Some Failed)) a b
settle_stops {a = a} {b = b} call = makes_told refl call (λ told files. unchanged files) (λ told waits. inr (refl, waits_look Broken a.disk b.disk waits))

pub settle_then : {e : Ending} (fault : Option JournalFault) {a b c : Seen} → IsFolder a → Calls Done (DoesOrNot settles) a b → Calls e (RecoversSettled fault) b c → Calls e (Recovers fault) a c
settle_then {e = e} fault {a = a} {b = b} {c = c} law first second = then_told first second
    (λ told one two. subst (λ (f : Files). (RecoversSettled fault).files e f c.files) one two)
    (λ told one two. recovers_first a.disk b.disk c.disk one fault
    (two (read a.disk.now) (subst (λ (d : Disk). IsCalm (read a.disk.now) d.now) (sym one) (calm_settled a.disk.now (law.whole told)))))

at_rest : {a b : Seen} → Calls Done (Recovers None) a b → IsAtRest b
at_rest {a = a} {b = b} call = record {
  rested = λ told n own. let it = call.files (sym call.tells ∙ told) in it.2 n ∙ recovered_no_own (get a.files) it.0 it.1 n own;
  settled = λ told. settled_read b.disk.now ((call.disk (sym call.records ∙ told)).1).settled;
}

pub ok_at_rest : {X : Type 0} (r : Result X JournalFault) {a b : Seen} → Calls (part_ending r) (Recovers (fault_of r)) a b → OnOk r (IsAtRest b)
ok_at_rest (Ok x) call = at_rest call
ok_at_rest (Err fault) call = tt
