use Rattle.std.proofs.Common.{◌∙◌}
use Rattle.pl_journal.specs.declared.fault.JournalFault.TheVariants.{NoMemory}
use Rattle.pl_journal.proofs.Endings.{fault_stops, memory_not_bad, not_bad_with, passed_with}
use Rattle.pl_journal.proofs.InPlace.{staged_can}
use Rattle.pl_journal.proofs.StageLemmas.{files_stop, journal_on, staged_nothing}
use Rattle.pl_journal.proofs.RealLemmas.{firmly_none, firmly_then, stops_firmly}
use Rattle.pl_journal.proofs.staging.stage_changes.Goals as goal

pub returns-in_err-bytes-clause-calls : goal.returns-in_err-bytes-clause-calls
returns-in_err-bytes-clause-calls g c = passed_with c.from_residual.result NoMemory c.from_residual.ensures.1 (staged_nothing c.args.changes.now (g.D.Folder.seen c.args.held.now.folder))

pub returns-in_err-steps-clause-calls : goal.returns-in_err-steps-clause-calls
returns-in_err-steps-clause-calls g c = passed_with c.from_residual-in_err-steps.result NoMemory c.from_residual-in_err-steps.ensures.1 (staged_nothing c.args.changes.now (g.D.Folder.seen c.args.held.now.folder))

pub returns-in_err-stage_files-clause-calls : goal.returns-in_err-stage_files-clause-calls
returns-in_err-stage_files-clause-calls g c =
    let fault = c.in_err-stage_files.field-0.0 in
    passed_with c.from_residual-in_err-stage_files.result fault c.from_residual-in_err-stage_files.ensures.1 (files_stop c.args.changes.now (fault_stops fault) c.in_err-stage_files.ensures.calls)

pub returns-in_err-put_own-clause-calls : goal.returns-in_err-put_own-clause-calls
returns-in_err-put_own-clause-calls g c =
    let fault = c.in_err-put_own.field-0.0 in
    passed_with c.from_residual-in_err-put_own.result fault c.from_residual-in_err-put_own.ensures.1
    (journal_on c.args.changes.now c.as_slice.result.now (c.as_slice.ensures.value ∙ c.in_ok-bytes.ensures) c.in_ok-stage_files.ensures.calls c.in_err-put_own.ensures.calls)

pub returns-clause-calls : goal.returns-clause-calls
returns-clause-calls g c = journal_on c.args.changes.now c.as_slice.result.now (c.as_slice.ensures.value ∙ c.in_ok-bytes.ensures) c.in_ok-stage_files.ensures.calls c.in_ok-put_own.ensures.calls

pub returns-clause-can : goal.returns-clause-can
returns-clause-can g c =
    staged_can c.args.changes.now c.in_ok-steps.steps c.requires.fine c.in_ok-steps.ensures c.requires.rested
    (journal_on c.args.changes.now c.as_slice.result.now (c.as_slice.ensures.value ∙ c.in_ok-bytes.ensures) c.in_ok-stage_files.ensures.calls c.in_ok-put_own.ensures.calls)

pub returns-in_err-bytes-clause-plain : goal.returns-in_err-bytes-clause-plain
returns-in_err-bytes-clause-plain g c = not_bad_with c.from_residual.result NoMemory c.from_residual.ensures.1 memory_not_bad

pub returns-in_err-steps-clause-plain : goal.returns-in_err-steps-clause-plain
returns-in_err-steps-clause-plain g c = not_bad_with c.from_residual-in_err-steps.result NoMemory c.from_residual-in_err-steps.ensures.1 memory_not_bad

pub returns-in_err-stage_files-clause-plain : goal.returns-in_err-stage_files-clause-plain
returns-in_err-stage_files-clause-plain g c =
    not_bad_with c.from_residual-in_err-stage_files.result c.in_err-stage_files.field-0.0 c.from_residual-in_err-stage_files.ensures.1 c.in_err-stage_files.ensures.plain

pub returns-in_err-put_own-clause-plain : goal.returns-in_err-put_own-clause-plain
returns-in_err-put_own-clause-plain g c = not_bad_with c.from_residual-in_err-put_own.result c.in_err-put_own.field-0.0 c.from_residual-in_err-put_own.ensures.1 c.in_err-put_own.ensures.plain

pub returns-in_err-bytes-clause-real : goal.returns-in_err-bytes-clause-real
returns-in_err-bytes-clause-real g c = stops_firmly _ c.from_residual.result c.from_residual.ensures.1 (firmly_none (g.D.Folder.seen c.args.held.now.folder))

pub returns-in_err-steps-clause-real : goal.returns-in_err-steps-clause-real
returns-in_err-steps-clause-real g c = stops_firmly _ c.from_residual-in_err-steps.result c.from_residual-in_err-steps.ensures.1 (firmly_none (g.D.Folder.seen c.args.held.now.folder))

pub returns-in_err-stage_files-clause-real : goal.returns-in_err-stage_files-clause-real
returns-in_err-stage_files-clause-real g c = stops_firmly _ c.from_residual-in_err-stage_files.result c.from_residual-in_err-stage_files.ensures.1 c.in_err-stage_files.ensures.real

pub returns-in_err-put_own-clause-real : goal.returns-in_err-put_own-clause-real
returns-in_err-put_own-clause-real g c = stops_firmly _ c.from_residual-in_err-put_own.result c.from_residual-in_err-put_own.ensures.1 (firmly_then c.in_ok-stage_files.ensures.real c.in_err-put_own.ensures.real)

pub returns-clause-real : goal.returns-clause-real
returns-clause-real g c = firmly_then c.in_ok-stage_files.ensures.real c.in_ok-put_own.ensures.real
