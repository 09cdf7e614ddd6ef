use Rattle.pl_cli.specs.Came.{HasUndone}
use Rattle.pl_texts.specs.Stops.{of_batch_fault}
use Rattle.pl_texts.proofs.StopLemmas.{at_err}
use Rattle.pl_cli.proofs.WriteLemmas.{undo_stopped, undo_was_done}
use Rattle.pl_cli.proofs.change.undo.Goals as goal

pub returns-in_err-do_run : goal.returns-in_err-do_run
returns-in_err-do_run g c =
    let folder = g.D.Folder.seen in
    let fault = c.in_err-do_run.field-0.0 in
    at_err (λ r. HasUndone c.args.run.now r (folder c.args.folder.now) (folder c.do_run.new.folder)) c.from_residual.result (of_batch_fault fault) c.from_residual.ensures.1
    (undo_stopped c.args.run.now fault c.in_err-do_run.ensures.calls)

pub returns : goal.returns
returns g c = undo_was_done c.args.run.now c.in_ok-do_run.field-0 c.in_ok-do_run.ensures.calls c.in_ok-do_run.ensures.count
