use Rattle.pl_journal.specs.Faults.{of_folder}
use Rattle.pl_journal.specs.Leaves.{fault_of}
use Rattle.pl_journal.specs.Parts.{RecoversSettled}
use Rattle.pl_journal.proofs.Endings.{passed_by}
use Rattle.pl_journal.proofs.RecoverParts.{names_after, names_stop, names_then, ok_any, quiet_names}
use Rattle.pl_journal.proofs.RealLemmas.{firmly_idle, firmly_then}
use Rattle.pl_journal.proofs.recovering.recover_settled.Goals as goal

pub returns-in_err-names-clause-calls : goal.returns-in_err-names-clause-calls
returns-in_err-names-clause-calls g c =
    let fault = c.in_err-names.field-0.0 in
    passed_by RecoversSettled c.from_residual.result (of_folder fault) c.from_residual.ensures.1 (names_stop fault c.in_err-names.ensures.plain c.in_err-names.ensures.calls)

pub recover_listed-requires-clause-names : goal.recover_listed-requires-clause-names
recover_listed-requires-clause-names g c = names_after c.in_ok-names.names.items c.as_slice.result.now c.in_ok-names.ensures.calls c.in_ok-names.ensures.names c.as_slice.ensures.value

pub returns-clause-calls : goal.returns-clause-calls
returns-clause-calls g c = names_then (fault_of c.recover_listed.result) c.in_ok-names.ensures.calls c.recover_listed.ensures.calls

pub returns-clause-quiet : goal.returns-clause-quiet
returns-clause-quiet g c = ok_any _ c.recover_listed.result (quiet_names (g.met.D.Folder.is_folder c.args.held.now.folder) c.in_ok-names.ensures.calls c.recover_listed.ensures.quiet)

pub returns-in_err-names-clause-real : goal.returns-in_err-names-clause-real
returns-in_err-names-clause-real g c = firmly_idle c.in_err-names.ensures.calls

pub returns-clause-real : goal.returns-clause-real
returns-clause-real g c = firmly_then (firmly_idle c.in_ok-names.ensures.calls) c.recover_listed.ensures.real
