use Rattle.std.proofs.Common.{◌≡◌, ◌∙◌, ◌-◌, List, [], ◌∷◌, drop, length, take, refl, ap, sym, subst, arith}
use Rattle.std.specs.FinMap.{get}
use Rattle.pl_base.specs.Files.{Files}
use Rattle.pl_batch.specs.declared.run.Run.{Run}
use Rattle.pl_journal.specs.Meaning.{HasNoOwn}
use Rattle.pl_weave.specs.Running.{AreRuns, Idles, Stands}
use Rattle.pl_weave.specs.Runs.{Runs, begun}
use Rattle.pl_weave.proofs.RunningLemmas.{begins_more, begins_works, head_rest, rests_stands}
use Rattle.pl_weave.proofs.running.Running.begin_next.Goals as goal

pub loop-left-init : goal.loop-left-init
loop-left-init c = record { runs = c.requires.2; idles = λ files idle. (idle, refl) }

pub begin-requires-clause-no_own : goal.begin-requires-clause-no_own
begin-requires-clause-no_own c =
    let idle = (c.loop-left.invariant.idles c.requires.0 c.requires.1).0 in
    subst (λ (files : Files). HasNoOwn (get files)) (sym idle.same) idle.no_own

pub loop-left-preserved : goal.loop-left-preserved
loop-left-preserved c =
    let left = c.loop-left.left.now in
    let run = c.run-item.result in
    let parts = head_rest left run c.in-len1-up.len_at_least ∙ ap (λ (first : Run). first ∷ take (length left - 1) (drop 1 left)) (sym c.run-item.is) in
    record {
      runs = (subst AreRuns parts c.loop-left.invariant.runs).1;
      idles = λ files idle.
          let at = c.loop-left.invariant.idles files idle in
          let more = begins_more files c.loop-left.self.finished _ _ c.loop-left.self c.begin.new.self refl (c.in_ok-begin.ensures.begins files at.0) (omega (arith, c.if-self-len.false, c.len.ensures)) in
          (more.0, more.1 ∙ ap (λ (w : List Run). begun files c.loop-left.self.finished w) (sym parts) ∙ at.1);
    }
