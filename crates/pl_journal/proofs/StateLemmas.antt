-- What a state gives the next one.
use Rattle.std.proofs.Common.{◌≡◌, ℕ, ◌+◌, ◌<◌, ◌≤◌, Result, Ok, Err, OnOk, false, true, ltb, subst, List, length, get_or, refl, sym, ◌∙◌, ap, arith}
use Rattle.std.specs.FinMap.{get}
use Rattle.pl_folder.specs.Calls.{Calls}
use Rattle.pl_folder.specs.Disk.{View, Disk, after, read}
use Rattle.pl_folder.specs.Effects.{DoesOrNot, settles}
use Rattle.pl_folder.specs.Seen.{Seen, IsFolder, Done, ends}
use Rattle.pl_folder.specs.Since.{Within}
use Rattle.pl_folder.specs.States.{settled}
use Rattle.pl_folder.proofs.ImageLaws.{settled_reads, settled_within}
use Rattle.pl_io.specs.declared.failed.Failed.{Failed}
use Rattle.pl_journal.specs.Meaning.{Same, rows_for}
use Rattle.pl_journal.specs.Names.{journal, journal_new}
use Rattle.pl_journal.specs.Parts.{CanGoOn, CanPut, CanStep, Commits, Finishes, IsAtRest, IsRested, IsStill, StepsOn, committed, journal_of}
use Rattle.pl_journal.specs.Phases.{shifted}
use Rattle.pl_journal.specs.Rows.{done_from}
use Rattle.pl_journal.specs.declared.row.Row.{Row}
use Rattle.pl_journal.specs.declared.step.Step.{Step}
use Rattle.pl_journal.specs.declared.step.Step.TheVariants.{Put as PutStep, Drop as DropStep, Skip}
use Rattle.pl_journal.proofs.CommitLemmas.{asked_there, next_done}
use Rattle.pl_journal.proofs.Done.{distinct_test, done_agree, none_done}
use Rattle.pl_journal.proofs.FileViews.{one_view}
use Rattle.pl_journal.proofs.GrammarLaws.{written_rows}
use Rattle.pl_journal.proofs.InPlace.{does_rows, end_read}
use Rattle.pl_journal.proofs.Meanings.{applied_no_own}
use Rattle.pl_journal.proofs.Phases.{as_many, below_rows, row_of_first_step}

pub none_yet : (rows : List Row) (v : View) → Same v (done_from 0 rows (λ j. ltb j 0) v)
none_yet rows v n = sym (none_done 0 rows v n) ∙ done_agree 0 rows (λ _. false) (λ j. ltb j 0) v n (λ j le. sym (Rattle.std.proofs.lemmas.Bool.le-ltb j 0 (omega arith)))

pub commit_can : {a b : Seen} (steps : List Step) → CanPut a steps → Calls Done Commits a b → CanGoOn b steps 0
commit_can {a = a} {b = b} steps can call told =
    let before = sym call.tells ∙ told in
    let it = can before in
    record {
      before = it.before;
      edits = it.edits;
      ready = it.ready;
      most = omega arith;
      reads = λ n. call.files before n ∙ ap (λ (v : View). shifted journal_new journal v n) (one_view _ _ it.reads) ∙ none_yet (rows_for it.edits) (committed it.edits it.before) n;
    }

module _ (steps : List Step) (k : ℕ) (step : Step) (lt : k < length steps) (is : step ≡ get_or steps k step) where
  pub next_there : (a : Seen) → CanGoOn a steps k → CanStep a step
  next_there a can = by_step step is
    where
      by_step : (s : Step) → s ≡ get_or steps k s → CanStep a s
      by_step (PutStep from to) is = λ told.
          let it = can told in
          let at = row_of_first_step (committed it.edits it.before) (rows_for it.edits) steps k (PutStep from to) (does_rows it.before it.edits steps it.ready) lt is in
          asked_there (committed it.edits it.before) (rows_for it.edits) it.ready.fine k at.0 from to at.1 at.2 (get a.files) it.reads
      by_step (DropStep name) is = tt
      by_step Skip is = tt

  pub next_can : {a b : Seen} → CanGoOn a steps k → Calls Done (StepsOn step) a b → CanGoOn b steps (k + 1)
  next_can {a = a} {b = b} can call told =
      let before = sym call.tells ∙ told in
      let it = can before in
      let at = row_of_first_step (committed it.edits it.before) (rows_for it.edits) steps k step (does_rows it.before it.edits steps it.ready) lt is in
      record {
        before = it.before;
        edits = it.edits;
        ready = it.ready;
        most = omega (arith, lt);
        reads = next_done (committed it.edits it.before) (rows_for it.edits) it.ready.fine k at.0 step at.1 at.2 (get a.files) (get b.files) it.reads (call.files before);
      }

pub end_rested : {a b : Seen} (steps : List Step) (k : ℕ) → length steps ≤ k → CanGoOn a steps k → Calls Done Finishes a b → IsRested b
end_rested {a = a} {b = b} steps k left can call told n own =
    let before = sym call.tells ∙ told in
    let it = can before in
    let rows = rows_for it.edits in
    let v0 = committed it.edits it.before in
    let all : k ≡ length rows = omega (arith, left, it.most, as_many v0 0 rows steps (does_rows it.before it.edits steps it.ready)) in
    let done : Same (get a.files) (done_from 0 rows (λ _. true) v0) = λ q. it.reads q ∙ ap (λ m. done_from 0 rows (λ j. ltb j m) v0 q) all ∙ below_rows rows v0 q in
    end_read it.before it.edits steps it.ready (get a.files) (get b.files) done (call.files before) n
    ∙ applied_no_own it.before it.ready.no_own it.edits (journal_of it.edits) (written_rows (journal_of it.edits) rows it.ready.fine refl) (distinct_test rows it.ready.fine) n own

pub ok_commit_can : {X : Type 0} (r : Result X Failed) {a b : Seen} (steps : List Step) → CanPut a steps → Calls (ends r) Commits a b → OnOk r (CanGoOn b steps 0)
ok_commit_can (Ok x) steps can call = commit_can steps can call
ok_commit_can (Err f) steps can call = tt

-- after a settle the only image is what a read gives
pub ok_still : {X : Type 0} (r : Result X Failed) {a b : Seen} → Calls (ends r) (DoesOrNot settles) a b → OnOk r (IsStill b)
ok_still (Ok x) {a = a} {b = b} call = λ told.
    let is : b.disk ≡ after (settled a.disk.now) a.disk = call.disk (sym call.records ∙ told) in
    subst (λ (d : Disk). Within d.now (Same (read d.now))) (sym is) (settled_within a.disk.now (Same (read (settled a.disk.now))) (settled_reads a.disk.now))
ok_still (Err f) call = tt

pub rest_of : {a : Seen} → IsFolder a → IsRested a → IsStill a → IsAtRest a
rest_of {a = a} law rested still = record {
  rested = rested;
  settled = λ told. record { whole = law.whole told; only = still told; no_own = λ n own. sym (law.reads told n) ∙ rested (law.tells told) n own };
}

pub ok_end_rest : {X : Type 0} (r : Result X Failed) {a b : Seen} (steps : List Step) (k : ℕ) → length steps ≤ k → CanGoOn a steps k → IsFolder b → Calls (ends r) Finishes a b → OnOk r (IsStill b) → OnOk r (IsAtRest b)
ok_end_rest (Ok x) steps k left can law call still = rest_of law (end_rested steps k left can call) still
ok_end_rest (Err f) steps k left can law call still = tt
