use Rattle.std.proofs.Common.{◌∙◌, ap, sym}
use Rattle.pl_base.specs.Files.{files_of}
use Rattle.pl_base.proofs.EachLaws.{each_done, each_more, front_nothing}
use Rattle.pl_texts.specs.Stops.{MeansAlone}
use Rattle.pl_cli.specs.Weave.{run_of, runs_of}
use Rattle.pl_texts.proofs.StopLemmas.{at_err}
use Rattle.pl_cli.proofs.WeaveLemmas.{more_runs, runs_stop}
use Rattle.pl_cli.proofs.weave.runs_of.Goals as goal

pub loop-run-init : goal.loop-run-init
loop-run-init c = rw c.new-runs.ensures (front_nothing (runs_of (files_of c.args.files.now) c.args.asked.now), tt)

pub returns-in_err-run_of-clause-means : goal.returns-in_err-run_of-clause-means
returns-in_err-run_of-clause-means c =
    let files = files_of c.args.files.now in
    let stop = c.in_err-run_of.field-0.0 in
    at_err (λ r. MeansAlone (runs_of files c.args.asked.now) r) c.from_residual.result stop c.from_residual.ensures.1
    (runs_stop files c.args.asked.now c.loop-run.run-index c.run-item.result c.loop-run.runs stop c.loop-run-test.true c.run-item.is c.in_err-run_of.ensures.means c.loop-run.invariant.0)

pub loop-run-preserved : goal.loop-run-preserved
loop-run-preserved c =
    let files = files_of c.args.files.now in
    let run = c.run-item.result in
    let made = c.in_ok-run_of.field-0 in
    rw c.in_ok-push.ensures.ok (
      each_more (run_of files) c.args.asked.now c.loop-run.run-index run c.loop-run.runs made (runs_of files c.args.asked.now) c.loop-run-test.true (ap (run_of files) (sym c.run-item.is) ∙ c.in_ok-run_of.ensures.means) c.loop-run.invariant.0,
      more_runs c.loop-run.runs made c.loop-run.invariant.1 c.in_ok-run_of.ensures.is,
    )

pub returns-clause-means : goal.returns-clause-means
returns-clause-means c =
    let files = files_of c.args.files.now in
    each_done (run_of files) c.args.asked.now c.loop-run.run-index c.loop-run.runs (runs_of files c.args.asked.now) c.loop-run-test.false c.loop-run.invariant.0
