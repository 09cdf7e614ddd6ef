use Rattle.std.proofs.Common.{◌+◌, arith}
use Rattle.pl_journal.proofs.Endings.{passed_failed}
use Rattle.pl_journal.proofs.CommitLemmas.{none_stepped, rows_all, rows_stop, step_there, steps_on}
use Rattle.pl_journal.proofs.RealLemmas.{firmly_none, firmly_then}
use Rattle.pl_journal.proofs.doing.do_rows.Goals as goal

pub loop-step-init : goal.loop-step-init
loop-step-init g c = (none_stepped c.args.steps.now (g.D.Folder.seen c.args.held.now.folder), firmly_none (g.D.Folder.seen c.args.held.now.folder))

pub do_step-requires : goal.do_step-requires
do_step-requires g c = step_there c.args.steps.now c.loop-step.step-index c.step-item.result c.loop-step-test.true c.step-item.is c.requires c.loop-step.invariant.0

pub returns-in_err-do_step-clause-calls : goal.returns-in_err-do_step-clause-calls
returns-in_err-do_step-clause-calls g c =
    passed_failed _ c.from_residual.result c.from_residual.ensures.1 (rows_stop (c.loop-step.step-index + 1) c.args.steps.now tt (steps_on c.args.steps.now c.loop-step.step-index c.step-item.result c.loop-step-test.true c.step-item.is c.loop-step.invariant.0 c.in_err-do_step.ensures.calls))

pub loop-step-preserved : goal.loop-step-preserved
loop-step-preserved g c = (steps_on c.args.steps.now c.loop-step.step-index c.step-item.result c.loop-step-test.true c.step-item.is c.loop-step.invariant.0 c.in_ok-do_step.ensures.calls, firmly_then c.loop-step.invariant.1 c.in_ok-do_step.ensures.real)

pub returns-clause-calls : goal.returns-clause-calls
returns-clause-calls g c = rows_all c.loop-step.step-index c.args.steps.now (omega (arith, c.loop-step-test.false, c.loop-step.auto.step-index-end)) c.loop-step.invariant.0

pub returns-in_err-do_step-clause-real : goal.returns-in_err-do_step-clause-real
returns-in_err-do_step-clause-real g c = firmly_then c.loop-step.invariant.1 c.in_err-do_step.ensures.real

pub returns-clause-real : goal.returns-clause-real
returns-clause-real g c = c.loop-step.invariant.1
