use Rattle.pl_batch.specs.All.{all_changes}
use Rattle.pl_change.specs.Answers.{Finds}
use Rattle.pl_batch.proofs.AllLemmas.{changed, unchanged}
use Rattle.pl_change.proofs.FindLemmas.{at_err}
use Rattle.pl_change.proofs.UndoLemmas.{rows}
use Rattle.pl_batch.proofs.all.all_changes.Goals as goal

pub returns-in_err-made : goal.returns-in_err-made
returns-in_err-made g c =
    let seen = g.D.Folder.seen in
    let fault = c.in_err-made.field-0.0 in
    at_err (λ r. Finds (all_changes (seen c.args.folder.now).files c.args.asked.now) rows r (seen c.args.folder.now) (seen c.all_made.new.folder)) c.from_residual.result fault c.from_residual.ensures.1
    (unchanged c.args.asked.now fault c.in_err-made.ensures)

pub returns : goal.returns
returns g c = changed c.args.asked.now c.in_ok-made.made c.in_ok-made.ensures
