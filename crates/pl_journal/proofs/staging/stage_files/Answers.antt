use Rattle.std.proofs.Common.{◌+◌}
use Rattle.std.proofs.lemmas.List.{drop_all}
use Rattle.pl_journal.proofs.Endings.{fault_stops, not_bad_with, passed_with}
use Rattle.pl_journal.proofs.StageLemmas.{stages_all, stages_none_yet, stages_on, stages_stop}
use Rattle.pl_journal.proofs.RealLemmas.{firmly_none, firmly_then, stops_firmly}
use Rattle.pl_journal.proofs.staging.stage_files.Goals as goal

pub loop-number-init : goal.loop-number-init
loop-number-init g c = (stages_none_yet c.args.changes.now c.requires (g.D.Folder.seen c.args.held.now.folder), firmly_none (g.D.Folder.seen c.args.held.now.folder))

pub returns-in_err-stage_one-clause-calls : goal.returns-in_err-stage_one-clause-calls
returns-in_err-stage_one-clause-calls g c =
    let fault = c.in_err-stage_one.field-0.0 in
    let changes = c.args.changes.now in
    let number = c.loop-number.number in
    passed_with c.from_residual.result fault c.from_residual.ensures.1
    (stages_stop changes c.requires (number + 1) (fault_stops fault) (stages_on changes c.requires number c.index-changes-number.result c.loop-number-test.true c.index-changes-number.is c.loop-number.invariant.0 c.in_err-stage_one.ensures.calls))

pub loop-number-preserved : goal.loop-number-preserved
loop-number-preserved g c =
    (stages_on c.args.changes.now c.requires c.loop-number.number c.index-changes-number.result c.loop-number-test.true c.index-changes-number.is c.loop-number.invariant.0 c.in_ok-stage_one.ensures.calls, firmly_then c.loop-number.invariant.1 c.in_ok-stage_one.ensures.real)

pub returns-clause-calls : goal.returns-clause-calls
returns-clause-calls g c = stages_all c.args.changes.now c.requires c.loop-number.number (drop_all c.loop-number.number c.args.changes.now c.loop-number-test.false) c.loop-number.invariant.0

pub returns-in_err-stage_one-clause-plain : goal.returns-in_err-stage_one-clause-plain
returns-in_err-stage_one-clause-plain g c = not_bad_with c.from_residual.result c.in_err-stage_one.field-0.0 c.from_residual.ensures.1 c.in_err-stage_one.ensures.plain

pub returns-in_err-stage_one-clause-real : goal.returns-in_err-stage_one-clause-real
returns-in_err-stage_one-clause-real g c = stops_firmly _ c.from_residual.result c.from_residual.ensures.1 (firmly_then c.loop-number.invariant.1 c.in_err-stage_one.ensures.real)

pub returns-clause-real : goal.returns-clause-real
returns-clause-real g c = c.loop-number.invariant.1
