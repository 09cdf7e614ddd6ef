use Rattle.std.proofs.Common.{◌≡◌, ◌∙◌, ◌+◌, ◌<◌, ◌≤◌, List, [], length, ap, sym, subst, arith}
use Rattle.std.specs.Borrow.{Bor}
use Rattle.pl_batch.specs.declared.run.Run.{Run}
use Rattle.pl_journal.specs.declared.change.Change.{Change}
use Rattle.pl_weave.specs.Running.{AreRuns, Idles, IsUnderWay, Rests, Stands, files_in}
use Rattle.pl_weave.specs.Runs.{Runs, renamed, with_row}
use Rattle.pl_weave.specs.declared.running.Running.{Running}
use Rattle.pl_weave.proofs.RunningLemmas.{LeftOf, goes_done, last_left, left_of, renamed_last, stands_on, stands_still}
use Rattle.pl_weave.proofs.UnderWayLemmas.{reads_done}
use Rattle.pl_weave.proofs.running.Running.rename.Goals as goal

pub returns-then-self-len : goal.returns-then-self-len
returns-then-self-len c r stands = stands_still c.args.self.now r (omega (arith, c.if-self-len.true)) stands

pub do_row-requires-clause-can : goal.do_row-requires-clause-can
do_row-requires-clause-can c = goes_done c.args.self.now c.requires (omega (arith, c.if-self-len.false))

pub returns-then-self-len-2 : goal.returns-then-self-len-2
returns-then-self-len-2 c r stands =
    let it = left_of c.args.self.now r stands (omega (arith, c.if-self-len.false)) in
    stands_on c.args.self.now c.do_row.new.self r it stands (c.do_row.ensures.goes it.row it.rows r.files it.works.under_way) c.do_row.ensures.done c.do_row.ensures.finished c.do_row.ensures.waiting (omega (arith, c.if-self-len-2.true))

pub end_run-requires-clause-can : goal.end_run-requires-clause-can
end_run-requires-clause-can c =
    let r = c.requires.0 in
    let it = left_of c.args.self.now r c.requires.1 (omega (arith, c.if-self-len.false)) in
    reads_done (c.do_row.ensures.goes it.row it.rows r.files it.works.under_way)

pub begin_next-requires : goal.begin_next-requires
begin_next-requires c =
    let r = c.requires.0 in
    let mid = c.do_row.new.self in
    let it = left_of c.args.self.now r c.requires.1 (omega (arith, c.if-self-len.false)) in
    let u = c.do_row.ensures.goes it.row it.rows r.files it.works.under_way in
    let last = last_left mid r it.row it.rows u (omega (arith, c.if-self-len-2.false)) in
    let waits = c.in_ok-end_run.ensures.waiting ∙ c.do_row.ensures.waiting in (
      with_row r.files it.row,
      c.in_ok-end_run.ensures.idles (with_row r.files it.row) (subst (λ (rows : List Change). IsUnderWay mid.steps mid.done rows (with_row r.files it.row) (files_in mid.held)) last u),
      subst AreRuns (sym (ap (λ (w : Bor (List Run)). w.now) waits ∙ c.requires.1.waiting)) c.requires.1.runs,
    )

pub returns : goal.returns
returns c r stands =
    let mid = c.do_row.new.self in
    let it = left_of c.args.self.now r stands (omega (arith, c.if-self-len.false)) in
    let u = c.do_row.ensures.goes it.row it.rows r.files it.works.under_way in
    let last = last_left mid r it.row it.rows u (omega (arith, c.if-self-len-2.false)) in
    let idle = c.in_ok-end_run.ensures.idles (with_row r.files it.row) (subst (λ (rows : List Change). IsUnderWay mid.steps mid.done rows (with_row r.files it.row) (files_in mid.held)) last u) in
    -- finished of the ended run: Does mid.done mid.done, and mid.done is old.done + 1
    subst (λ (q : Runs). Stands c.begin_next.new.self q)
    (renamed_last c.args.self.now r it c.end_run.new.self last stands (rw (c.do_row.ensures.done, c.do_row.ensures.finished) at c.in_ok-end_run.ensures.finished) (c.in_ok-end_run.ensures.waiting ∙ c.do_row.ensures.waiting))
    (c.in_ok-begin_next.ensures (with_row r.files it.row) idle)
