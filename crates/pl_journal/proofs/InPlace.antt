-- All changes or none: the parts together.
use Rattle.std.proofs.Common.{◌≡◌, inl, inr, ⊎_elim, ℕ, true, List, [], length, Some, None, is_some, refl, sym, ◌∙◌, ap, subst}
use Rattle.std.specs.FinMap.{get}
use Rattle.pl_base.specs.Files.{Files}
use Rattle.pl_folder.specs.Calls.{Calls, IsThere}
use Rattle.pl_folder.specs.Disk.{Name, View, State, Disk, read}
use Rattle.pl_folder.specs.Effects.{Effect}
use Rattle.pl_folder.specs.Seen.{Seen, Ending, Done, Broken, Undone}
use Rattle.pl_folder.specs.Since.{Keeps}
use Rattle.pl_journal.specs.Faults.{journal_ending}
use Rattle.pl_journal.specs.Leaves.{DoEdits}
use Rattle.pl_journal.specs.Meaning.{Edit, HasNoOwn, IsSettled, Same, StandsBetween, StandsFor, applied, rows_for}
use Rattle.pl_journal.specs.Names.{journal, journal_new}
use Rattle.pl_journal.specs.Parts.{AtDone, AtEnd, CanDo, CanPut, CarriesDisk, CarriesFiles, CarriesOut, Commits, DoRows, DoesRows, Finishes, IsReady, IsRested, PutsInPlace, ReadsOrNot, Stages, WritesOwn, journal_of, without_journal}
use Rattle.pl_journal.specs.Phases.{Committing, Finishing, IsDoing, IsStaging, Midway, Untouched, all_staged, finished, shifted}
use Rattle.pl_journal.specs.Rows.{done_from, rows_of}
use Rattle.pl_journal.specs.Spelling.{are_rows}
use Rattle.pl_journal.specs.declared.fault.JournalFault.{JournalFault}
use Rattle.pl_journal.specs.declared.fault.JournalFault.TheVariants.{Failed, BadJournal, NoMemory}
use Rattle.pl_journal.specs.declared.row.Row.{Row}
use Rattle.pl_journal.specs.declared.step.Step.{Step}
use Rattle.pl_journal.proofs.CarryLemmas.{all_between, committed_is_between, committing_between, ended_between, ends_settled, finishing_between, midway_between, staged_between, settled_within_for, steps_are, v0}
use Rattle.pl_journal.proofs.Done.{distinct_test}
use Rattle.pl_journal.proofs.Endings.{Stops, at_done, makes_told, no_calls, stopped, then_told}
use Rattle.pl_journal.proofs.FileViews.{one_view}
use Rattle.pl_journal.proofs.GrammarLaws.{written_rows}
use Rattle.pl_journal.proofs.Meanings.{applied_no_own, before_between, ends_applied, untouched_stands}
use Rattle.pl_journal.proofs.Moments.{joined, starts, weaker}
use Rattle.pl_journal.proofs.Phases.{as_many, below_rows}

module _ (before : View) (edits : List Edit) (steps : List Step) (ready : IsReady before edits steps) where
  abbrev rows : List Row
  rows = rows_for edits

  abbrev bytes : List ℕ
  bytes = journal_of edits

  abbrev r : View
  r = all_staged edits bytes before

  abbrev spelled : rows_of bytes ≡ Some rows
  spelled = written_rows bytes rows ready.fine refl

  -- the folder as it is committed
  abbrev pub committed : View
  committed = v0 before ready.no_own edits bytes spelled

  abbrev B : View → Type 0
  B = StandsBetween before edits

  pub does_rows : Rattle.pl_journal.specs.Phases.AreSteps committed 0 rows steps
  does_rows = steps_are before ready.no_own edits bytes spelled steps ready.does

  pub commit_disk : (e : Ending) (x y : Disk) → Commits.disk e x y → IsStaging before r x.now → Keeps x y B × AtDone e (IsDoing committed rows 0 y.now)
  commit_disk e x y commits staging =
      let it = commits before r rows refl staging in
      (weaker x y (Committing before r rows) B (committing_between before ready.no_own edits bytes spelled) it.0, it.1)

  pub rows_disk : (e : Ending) (x y : Disk) → (DoesRows steps).disk e x y → IsDoing committed rows 0 x.now → Keeps x y B × AtDone e (IsDoing committed rows (length rows) y.now)
  rows_disk e x y does doing =
      let it = does committed rows ready.fine does_rows doing in
      (weaker x y (Midway committed rows) B (midway_between before ready.no_own edits bytes spelled) it.0, at_done e (λ now. subst (λ k. IsDoing committed rows k y.now) (as_many committed 0 rows steps does_rows) now) it.1)

  pub finish_disk : (e : Ending) (x y : Disk) → Finishes.disk e x y → IsDoing committed rows (length rows) x.now → Keeps x y B × AtDone e (IsSettled (applied edits before) y.now)
  finish_disk e x y finishes doing =
      let it = finishes committed rows ready.fine doing in
      (weaker x y (Finishing committed rows) B (finishing_between before ready.no_own edits bytes spelled) it.0, at_done e (λ now. ends_settled before ready.no_own edits bytes spelled y.now now) it.1)

  -- what is read after the rows
  pub all_done_read : (v w : View) → v ≡ committed → Same w (done_from 0 rows (λ j. Rattle.std.proofs.Common.ltb j (length steps)) v) → Same w (done_from 0 rows (λ _. true) committed)
  all_done_read v w is reads n =
      reads n
      ∙ ap (λ k. done_from 0 rows (λ j. Rattle.std.proofs.Common.ltb j k) v n) (as_many committed 0 rows steps does_rows)
      ∙ below_rows rows v n
      ∙ ap (λ u. done_from 0 rows (λ _. true) u n) is

  pub end_read : (w u : View) → Same w (done_from 0 rows (λ _. true) committed) → Same u (without_journal w) → Same u (applied edits before)
  end_read w u reads is n =
      is n
      ∙ ap (λ x. Rattle.std.proofs.Common.cond (Rattle.pl_folder.specs.Disk.same n journal) None x) (reads n)
      ∙ ends_applied before ready.no_own edits bytes spelled (distinct_test rows ready.fine) n

-- what is read where the folder failed, or did not
module _ (before : View) (edits : List Edit) (steps : List Step) (ready : IsReady before edits steps) where
  abbrev s : rows_of (journal_of edits) ≡ Some (rows_for edits)
  s = written_rows (journal_of edits) (rows_for edits) ready.fine refl

  pub commit_read : (e : Ending) (x y : Files) → Same (get x) (all_staged edits (journal_of edits) before) → ReadsOrNot (shifted journal_new journal) e x y → AtEnd e (get y ≡ committed before edits steps ready) (StandsBetween before edits (get y))
  commit_read e x y reads end = by_ending e end
    where
      made : Same (get y) (shifted journal_new journal (get x)) → Same (get y) (committed before edits steps ready)
      made is n = is n ∙ ap (λ (v : View). shifted journal_new journal v n) (one_view _ _ reads)

      by_ending : (e : Ending) → ReadsOrNot (shifted journal_new journal) e x y → AtEnd e (get y ≡ committed before edits steps ready) (StandsBetween before edits (get y))
      by_ending Done is = one_view (get y) (committed before edits steps ready) (made is)
      by_ending Broken (inl is) = staged_between before ready.no_own edits (journal_of edits) s (get y) (λ n. is n ∙ reads n)
      by_ending Broken (inr is) = committed_is_between before ready.no_own edits (journal_of edits) s (get y) (made is)
      by_ending Undone is = tt

  pub rows_read : (e : Ending) (x y : Files) → get x ≡ committed before edits steps ready → (DoesRows steps).files e x y → AtEnd e (Same (get y) (done_from 0 (rows_for edits) (λ _. true) (committed before edits steps ready))) (StandsBetween before edits (get y))
  rows_read e x y is does = by_ending e (does (rows_for edits) ready.fine (subst (λ v. Rattle.pl_journal.specs.Phases.AreSteps v 0 (rows_for edits) steps) (sym is) (does_rows before edits steps ready)))
    where
      by_ending : (e : Ending) → AtEnd e (Same (get y) (done_from 0 (rows_for edits) (λ j. Rattle.std.proofs.Common.ltb j (length steps)) (get x))) (Midway (get x) (rows_for edits) (get y))
          → AtEnd e (Same (get y) (done_from 0 (rows_for edits) (λ _. true) (committed before edits steps ready))) (StandsBetween before edits (get y))
      by_ending Done now = all_done_read before edits steps ready (get x) (get y) is now
      by_ending Broken part = midway_between before ready.no_own edits (journal_of edits) s (get y) (subst (λ (v : View). Midway v (rows_for edits) (get y)) is part)
      by_ending Undone end = tt

  pub finish_read : (e : Ending) (x y : Files) → Same (get x) (done_from 0 (rows_for edits) (λ _. true) (committed before edits steps ready)) → ReadsOrNot without_journal e x y → AtEnd e (Same (get y) (applied edits before)) (StandsBetween before edits (get y))
  finish_read e x y reads end = by_ending e end
    where
      by_ending : (e : Ending) → ReadsOrNot without_journal e x y → AtEnd e (Same (get y) (applied edits before)) (StandsBetween before edits (get y))
      by_ending Done now = end_read before edits steps ready (get x) (get y) reads now
      by_ending Broken (inl is) = all_between before ready.no_own edits (journal_of edits) s (get y) (λ n. is n ∙ reads n)
      by_ending Broken (inr is) = ended_between before ready.no_own edits (journal_of edits) s (get y) (λ n. is n ∙ ap (λ x. Rattle.std.proofs.Common.cond (Rattle.pl_folder.specs.Disk.same n journal) None x) (reads n))
      by_ending Undone end = tt

-- a part that did not come to its end
end_stopped : (X Y Z : Type 0) (e : Ending) → Stops e → AtEnd e X Z → AtEnd e Y Z
end_stopped X Y Z Done stops end = absurd stops
end_stopped X Y Z Broken stops end = end
end_stopped X Y Z Undone stops end = tt

-- ---- from staging to the end

pub staged_there : (a : Seen) (steps : List Step) → CanPut a steps → IsThere a journal_new
staged_there a steps can told = let it = can told in ap (λ o. is_some o) (it.reads journal_new)

abbrev pub PutsCommit : List Step → Effect
PutsCommit steps = record {
  files = λ e old new. (before : View) (edits : List Edit) (ready : IsReady before edits steps) → Same (get old) (all_staged edits (journal_of edits) before) → AtEnd e (get new ≡ committed before edits steps ready) (StandsBetween before edits (get new));
  disk = λ e old new. (before : View) (edits : List Edit) (ready : IsReady before edits steps) → IsStaging before (all_staged edits (journal_of edits) before) old.now → Keeps old new (StandsBetween before edits) × AtDone e (IsDoing (committed before edits steps ready) (rows_for edits) 0 new.now);
}

abbrev pub PutsRows : List Step → Effect
PutsRows steps = record {
  files = λ e old new. (before : View) (edits : List Edit) (ready : IsReady before edits steps) → Same (get old) (all_staged edits (journal_of edits) before) → AtEnd e (Same (get new) (done_from 0 (rows_for edits) (λ _. true) (committed before edits steps ready))) (StandsBetween before edits (get new));
  disk = λ e old new. (before : View) (edits : List Edit) (ready : IsReady before edits steps) → IsStaging before (all_staged edits (journal_of edits) before) old.now → Keeps old new (StandsBetween before edits) × AtDone e (IsDoing (committed before edits steps ready) (rows_for edits) (length (rows_for edits)) new.now);
}

module _ (steps : List Step) where
  pub puts_commit : {e : Ending} {a b : Seen} → Calls e Commits a b → Calls e (PutsCommit steps) a b
  puts_commit {e = e} {a = a} {b = b} call = makes_told refl call
      (λ told files before edits ready reads. commit_read before edits steps ready e a.files b.files reads files)
      (λ told disk before edits ready staging. commit_disk before edits steps ready e a.disk b.disk disk staging)

  pub puts_commit_stop : {e : Ending} {a b : Seen} → Stops e → Calls e (PutsCommit steps) a b → Calls e (PutsInPlace steps) a b
  puts_commit_stop {e = e} stops call = makes_told refl call (λ told files before edits ready reads. end_stopped _ _ _ e stops (files before edits ready reads)) (λ told disk before edits ready staging. ((disk before edits ready staging).0, stopped _ e stops))

  pub committed_can : {a b : Seen} → CanPut a steps → Calls Done (PutsCommit steps) a b → CanDo b steps
  committed_can {a = a} {b = b} can call told =
      let before = sym call.tells ∙ told in
      let it = can before in
      let is : get b.files ≡ committed it.before it.edits steps it.ready = call.files before it.before it.edits it.ready it.reads in
      subst (DoRows steps) (sym is) (record { rows = rows_for it.edits; fine = it.ready.fine; steps_are = does_rows it.before it.edits steps it.ready })

  pub puts_rows : {e : Ending} {a b c : Seen} → Calls Done (PutsCommit steps) a b → Calls e (DoesRows steps) b c → Calls e (PutsRows steps) a c
  puts_rows {e = e} {a = a} {b = b} {c = c} first second = then_told first second
      (λ told one two before edits ready reads. rows_read before edits steps ready e b.files c.files (one before edits ready reads) two)
      (λ told one two before edits ready staging.
      let was = one before edits ready staging in
      let next = rows_disk before edits steps ready e b.disk c.disk two was.1 in
      (joined a.disk b.disk c.disk (StandsBetween before edits) was.0 next.0, next.1))

  pub puts_rows_stop : {e : Ending} {a b : Seen} → Stops e → Calls e (PutsRows steps) a b → Calls e (PutsInPlace steps) a b
  puts_rows_stop {e = e} stops call = makes_told refl call (λ told files before edits ready reads. end_stopped _ _ _ e stops (files before edits ready reads)) (λ told disk before edits ready staging. ((disk before edits ready staging).0, stopped _ e stops))

  pub puts_end : {e : Ending} {a b c : Seen} → Calls Done (PutsRows steps) a b → Calls e Finishes b c → Calls e (PutsInPlace steps) a c
  puts_end {e = e} {a = a} {b = b} {c = c} first second = then_told first second
      (λ told one two before edits ready reads. finish_read before edits steps ready e b.files c.files (one before edits ready reads) two)
      (λ told one two before edits ready staging.
      let was = one before edits ready staging in
      let next = finish_disk before edits steps ready e b.disk c.disk two was.1 in
      (joined a.disk b.disk c.disk (StandsBetween before edits) was.0 next.0, next.1))

-- ---- all of it

module _ (edits : List Edit) where
  pub nothing_carried : (a : Seen) → edits ≡ [] → Calls Done (CarriesOut edits) a a
  nothing_carried a none = no_calls Done a refl
      (λ told no_own n. sym (ap (λ (es : List Edit). applied es (get a.files) n) none))
      (λ told before settled. (
        starts a.disk (StandsBetween before edits) (λ w image. before_between before settled.no_own edits w (settled_within_for before a.disk.now settled w image)),
        subst (λ (v : View). IsSettled v a.disk.now) (one_view before (applied edits before) (λ n. sym (ap (λ (es : List Edit). applied es before n) none))) settled,
      ))

  carried_fault : (fault : JournalFault) (before : View) (x y : Disk) → HasNoOwn before → Keeps x y (Untouched before) → CarriesDisk before edits (journal_ending fault) x y
  carried_fault Failed before x y no_own keeps = weaker x y (Untouched before) (StandsBetween before edits) (λ w u. before_between before no_own edits w (untouched_stands before no_own w u)) keeps
  carried_fault BadJournal before x y no_own keeps = weaker x y (Untouched before) (StandsFor before) (untouched_stands before no_own) keeps
  carried_fault NoMemory before x y no_own keeps = weaker x y (Untouched before) (StandsFor before) (untouched_stands before no_own) keeps

  -- own names alone were written
  written_for : (x y : Files) → HasNoOwn (get x) → WritesOwn x y → StandsFor (get x) (get y)
  written_for x y no_own writes = untouched_stands (get x) no_own (get y) (record { agree = writes.0; no_journal = writes.1 ∙ no_own journal refl })

  stopped_files : (fault : JournalFault) (x y : Files) → HasNoOwn (get x) → WritesOwn x y → CarriesFiles (get x) edits (journal_ending fault) (get y)
  stopped_files Failed x y no_own writes = before_between (get x) no_own edits (get y) (written_for x y no_own writes)
  stopped_files BadJournal x y no_own writes = written_for x y no_own writes
  stopped_files NoMemory x y no_own writes = written_for x y no_own writes

  pub carried_stop : (fault : JournalFault) {a b : Seen} → Calls (journal_ending fault) (Stages edits) a b → Calls (journal_ending fault) (CarriesOut edits) a b
  carried_stop fault {a = a} {b = b} call = makes_told refl call (λ told files no_own. stopped_files fault a.files b.files no_own files.1) (λ told disk before settled. carried_fault fault before a.disk b.disk settled.no_own (disk before settled).0)

  module _ (steps : List Step) (fine : are_rows (rows_for edits) ≡ true) (does : DoEdits 0 edits steps) where
    ready_of : (before : View) → HasNoOwn before → IsReady before edits steps
    ready_of before no_own = record { no_own = no_own; fine = fine; does = does }

    pub staged_can : {a b : Seen} → IsRested a → Calls Done (Stages edits) a b → CanPut b steps
    staged_can {a = a} {b = b} rested call told =
        let before = sym call.tells ∙ told in
        record { before = get a.files; edits = edits; ready = ready_of (get a.files) (rested before); reads = (call.files before).0 }

    pub carried_rests : {a b : Seen} → IsRested a → Calls Done (CarriesOut edits) a b → IsRested b
    carried_rests {a = a} rested call told n own =
        let before = sym call.tells ∙ told in
        call.files before (rested before) n ∙ applied_no_own (get a.files) (rested before) edits (journal_of edits) (written_rows (journal_of edits) (rows_for edits) fine refl) (distinct_test (rows_for edits) fine) n own

    untouched_keeps : (before : View) (x y : Disk) → HasNoOwn before → Keeps x y (Untouched before) → Keeps x y (StandsBetween before edits)
    untouched_keeps before x y no_own keeps = weaker x y (Untouched before) (StandsBetween before edits) (λ w u. before_between before no_own edits w (untouched_stands before no_own w u)) keeps

    pub carried_broken : {a b c : Seen} → Calls Done (Stages edits) a b → Calls Broken (PutsInPlace steps) b c → Calls Broken (CarriesOut edits) a c
    carried_broken {a = a} {b = b} {c = c} first second = then_told first second (λ told one two no_own. two (get a.files) edits (ready_of (get a.files) no_own) one.0)
        (λ told one two before settled.
        let was = one before settled in
        let next = two before edits (ready_of before settled.no_own) was.1 in
        joined a.disk b.disk c.disk (StandsBetween before edits) (untouched_keeps before a.disk b.disk settled.no_own was.0) next.0)

    pub carried : {a b c : Seen} → Calls Done (Stages edits) a b → Calls Done (PutsInPlace steps) b c → Calls Done (CarriesOut edits) a c
    carried {a = a} {b = b} {c = c} first second = then_told first second
        (λ told one two no_own. two (get a.files) edits (ready_of (get a.files) no_own) one.0)
        (λ told one two before settled.
        let was = one before settled in
        let next = two before edits (ready_of before settled.no_own) was.1 in
        (joined a.disk b.disk c.disk (StandsBetween before edits) (untouched_keeps before a.disk b.disk settled.no_own was.0) next.0, next.1))
