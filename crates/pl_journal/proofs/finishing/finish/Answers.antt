use Rattle.pl_journal.proofs.Endings.{passed_failed}
use Rattle.pl_journal.proofs.CommitLemmas.{finishes_on, removes_journal, removes_journal_stop, settles_rows, settles_rows_stop}
use Rattle.pl_journal.proofs.StateLemmas.{ok_still}
use Rattle.pl_journal.proofs.RealLemmas.{firmly_removed, firmly_settled, firmly_then}
use Rattle.pl_journal.proofs.finishing.finish.Goals as goal

pub returns-in_err-settle-clause-calls : goal.returns-in_err-settle-clause-calls
returns-in_err-settle-clause-calls g c = passed_failed _ c.from_residual.result c.from_residual.ensures.1 (settles_rows_stop tt (settles_rows c.in_err-settle.ensures))

pub returns-in_err-remove-clause-calls : goal.returns-in_err-remove-clause-calls
returns-in_err-remove-clause-calls g c = passed_failed _ c.from_residual-in_err-remove.result c.from_residual-in_err-remove.ensures.1 (removes_journal_stop tt (removes_journal (settles_rows c.in_ok-settle.ensures) c.in_err-remove.ensures))

pub returns-clause-calls : goal.returns-clause-calls
returns-clause-calls g c = finishes_on (removes_journal (settles_rows c.in_ok-settle.ensures) c.in_ok-remove.ensures) c.settle-2.ensures

pub returns-clause-settled : goal.returns-clause-settled
returns-clause-settled g c = ok_still c.settle-2.result c.settle-2.ensures

pub returns-in_err-settle-clause-real : goal.returns-in_err-settle-clause-real
returns-in_err-settle-clause-real g c = firmly_settled c.in_err-settle.ensures

pub returns-in_err-remove-clause-real : goal.returns-in_err-remove-clause-real
returns-in_err-remove-clause-real g c = firmly_then (firmly_settled c.in_ok-settle.ensures) (firmly_removed _ c.in_err-remove.ensures)

pub returns-clause-real : goal.returns-clause-real
returns-clause-real g c = firmly_then (firmly_then (firmly_settled c.in_ok-settle.ensures) (firmly_removed _ c.in_ok-remove.ensures)) (firmly_settled c.settle-2.ensures)
