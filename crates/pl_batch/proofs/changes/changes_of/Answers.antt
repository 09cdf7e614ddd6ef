use Rattle.pl_base.specs.Answers.{◌>>=◌}
use Rattle.pl_change.specs.Answers.{Finds}
use Rattle.pl_batch.specs.Changes.{changes_by, changes_of}
use Rattle.pl_change.specs.Changes.{fitting}
use Rattle.pl_change.proofs.FindLemmas.{at_err, stops_finds, then_alone}
use Rattle.pl_change.proofs.UndoLemmas.{rows}
use Rattle.pl_batch.proofs.changes.changes_of.Goals as goal

pub returns-in_err-rows-clause-found : goal.returns-in_err-rows-clause-found
unfolding changes_of
returns-in_err-rows-clause-found g c =
    let seen = g.D.Folder.seen in
    let a = seen c.args.folder.now in
    let fault = c.in_err-rows.field-0.0 in
    at_err (λ r. Finds (changes_by a.files c.args.run.now >>= fitting) rows r a (seen c.changes_by.new.folder)) c.from_residual.result fault c.from_residual.ensures.1
    (stops_finds (changes_by a.files c.args.run.now) rows fitting rows fault c.in_err-rows.ensures)

pub returns-clause-found : goal.returns-clause-found
unfolding changes_of
returns-clause-found g c =
    let a = g.D.Folder.seen c.args.folder.now in
    then_alone (changes_by a.files c.args.run.now) rows c.in_ok-rows.rows fitting c.fitting.result c.in_ok-rows.ensures c.fitting.ensures.means
