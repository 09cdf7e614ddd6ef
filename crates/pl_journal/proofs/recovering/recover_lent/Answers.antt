use Rattle.pl_journal.specs.Leaves.{fault_of}
use Rattle.pl_journal.specs.Parts.{Recovers}
use Rattle.pl_journal.specs.declared.fault.JournalFault.TheVariants.{Failed}
use Rattle.pl_journal.proofs.Endings.{passed_by}
use Rattle.pl_journal.proofs.RecoverParts.{ok_at_rest, settle_stops, settle_then}
use Rattle.pl_journal.proofs.RealLemmas.{firmly_settled, firmly_then}
use Rattle.pl_journal.proofs.recovering.recover_lent.Goals as goal

pub returns-clause-calls : goal.returns-clause-calls
returns-clause-calls g c = settle_then (fault_of c.recover_settled.result) (g.met.D.Folder.is_folder c.args.held.now.folder) c.in_ok-settle.ensures c.recover_settled.ensures.calls

pub returns-clause-rested : goal.returns-clause-rested
returns-clause-rested g c = ok_at_rest c.recover_settled.result (settle_then (fault_of c.recover_settled.result) (g.met.D.Folder.is_folder c.args.held.now.folder) c.in_ok-settle.ensures c.recover_settled.ensures.calls)

pub returns-in_err-settle-clause-real : goal.returns-in_err-settle-clause-real
returns-in_err-settle-clause-real g c = firmly_settled c.in_err-settle.ensures

pub returns-clause-real : goal.returns-clause-real
returns-clause-real g c = firmly_then (firmly_settled c.in_ok-settle.ensures) c.recover_settled.ensures.real

pub returns-in_err-settle-clause-calls : goal.returns-in_err-settle-clause-calls
returns-in_err-settle-clause-calls g c = passed_by Recovers c.from_residual.result Failed c.from_residual.ensures.1 (settle_stops c.in_err-settle.ensures)
