use Rattle.pl_journal.proofs.Endings.{passed_failed}
use Rattle.pl_journal.proofs.InPlace.{committed_can, puts_commit, puts_commit_stop, puts_end, puts_rows, puts_rows_stop, staged_there}
use Rattle.pl_journal.proofs.RealLemmas.{firmly_then}
use Rattle.pl_journal.proofs.carrying.put_in_place.Goals as goal

pub commit-requires : goal.commit-requires
commit-requires g c = staged_there (g.D.Folder.seen c.args.held.now.folder) c.args.steps.now c.requires

pub returns-in_err-commit-clause-calls : goal.returns-in_err-commit-clause-calls
returns-in_err-commit-clause-calls g c = passed_failed _ c.from_residual.result c.from_residual.ensures.1 (puts_commit_stop c.args.steps.now tt (puts_commit c.args.steps.now c.in_err-commit.ensures.calls))

pub do_rows-requires : goal.do_rows-requires
do_rows-requires g c = committed_can c.args.steps.now c.requires (puts_commit c.args.steps.now c.in_ok-commit.ensures.calls)

pub returns-in_err-do_rows-clause-calls : goal.returns-in_err-do_rows-clause-calls
returns-in_err-do_rows-clause-calls g c = passed_failed _ c.from_residual-in_err-do_rows.result c.from_residual-in_err-do_rows.ensures.1 (puts_rows_stop c.args.steps.now tt (puts_rows c.args.steps.now (puts_commit c.args.steps.now c.in_ok-commit.ensures.calls) c.in_err-do_rows.ensures.calls))

pub returns-clause-calls : goal.returns-clause-calls
returns-clause-calls g c = puts_end c.args.steps.now (puts_rows c.args.steps.now (puts_commit c.args.steps.now c.in_ok-commit.ensures.calls) c.in_ok-do_rows.ensures.calls) c.finish.ensures.calls

pub returns-in_err-do_rows-clause-real : goal.returns-in_err-do_rows-clause-real
returns-in_err-do_rows-clause-real g c = firmly_then c.in_ok-commit.ensures.real c.in_err-do_rows.ensures.real

pub returns-clause-real : goal.returns-clause-real
returns-clause-real g c = firmly_then (firmly_then c.in_ok-commit.ensures.real c.in_ok-do_rows.ensures.real) c.finish.ensures.real
