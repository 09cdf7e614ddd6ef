use Rattle.pl_change.specs.Answers.{Finds}
use Rattle.pl_change.specs.Replace.{put_fitting}
use Rattle.pl_change.proofs.FindLemmas.{at_err}
use Rattle.pl_change.proofs.ReplaceLemmas.{put_fits, unput}
use Rattle.pl_change.proofs.UndoLemmas.{rows}
use Rattle.pl_change.proofs.fixing.put_fitting.Goals as goal

pub returns-in_err-rows-clause-found : goal.returns-in_err-rows-clause-found
returns-in_err-rows-clause-found g c =
    let seen = g.D.Folder.seen in
    let a = seen c.args.folder.now in
    let fault = c.in_err-rows.field-0.0 in
    at_err (λ r. Finds (put_fitting a.files c.args.name.now c.args.bytes) rows r a (seen c.put.new.folder)) c.from_residual.result fault c.from_residual.ensures.1
    (unput c.args.name.now c.args.bytes fault c.in_err-rows.ensures)

pub returns-clause-found : goal.returns-clause-found
returns-clause-found g c = put_fits c.args.name.now c.args.bytes c.in_ok-rows.rows c.fitting.result c.in_ok-rows.ensures c.fitting.ensures.means
