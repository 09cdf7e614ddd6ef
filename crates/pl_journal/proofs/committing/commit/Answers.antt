use Rattle.pl_journal.proofs.Endings.{passed_failed}
use Rattle.pl_journal.proofs.CommitLemmas.{commits_on, names_journal, names_stop_commit, settled_there, settles_staged, settles_stop}
use Rattle.pl_journal.proofs.RealLemmas.{firmly_named, firmly_settled, firmly_then}
use Rattle.pl_journal.proofs.committing.commit.Goals as goal

pub returns-in_err-settle-clause-calls : goal.returns-in_err-settle-clause-calls
returns-in_err-settle-clause-calls g c = passed_failed _ c.from_residual.result c.from_residual.ensures.1 (settles_stop tt (settles_staged c.in_err-settle.ensures))

pub name_firm-requires-clause-there : goal.name_firm-requires-clause-there
name_firm-requires-clause-there g c = settled_there (settles_staged c.in_ok-settle.ensures) c.requires

pub returns-in_err-name_firm-clause-calls : goal.returns-in_err-name_firm-clause-calls
returns-in_err-name_firm-clause-calls g c = passed_failed _ c.from_residual-in_err-name_firm.result c.from_residual-in_err-name_firm.ensures.1 (names_stop_commit tt (names_journal c.requires (settles_staged c.in_ok-settle.ensures) c.in_err-name_firm.ensures))

pub returns-clause-calls : goal.returns-clause-calls
returns-clause-calls g c = commits_on (names_journal c.requires (settles_staged c.in_ok-settle.ensures) c.in_ok-name_firm.ensures) c.settle-2.ensures

pub returns-in_err-settle-clause-real : goal.returns-in_err-settle-clause-real
returns-in_err-settle-clause-real g c = firmly_settled c.in_err-settle.ensures

pub returns-in_err-name_firm-clause-real : goal.returns-in_err-name_firm-clause-real
returns-in_err-name_firm-clause-real g c = firmly_then (firmly_settled c.in_ok-settle.ensures) (firmly_named _ _ c.in_err-name_firm.ensures)

pub returns-clause-real : goal.returns-clause-real
returns-clause-real g c = firmly_then (firmly_then (firmly_settled c.in_ok-settle.ensures) (firmly_named _ _ c.in_ok-name_firm.ensures)) (firmly_settled c.settle-2.ensures)
