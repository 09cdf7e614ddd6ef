use Rattle.pl_cli.specs.Came.{HasPreviewed}
use Rattle.pl_texts.specs.Stops.{of_batch_fault}
use Rattle.pl_texts.specs.declared.stop.Stop.TheVariants as stops
use Rattle.pl_texts.proofs.StopLemmas.{at_err}
use Rattle.pl_cli.proofs.AllLemmas.{preview_lacks, preview_stopped, was_previewed}
use Rattle.pl_cli.proofs.all.preview.Goals as goal

pub returns-in_err-report : goal.returns-in_err-report
returns-in_err-report g c =
    let folder = g.D.Folder.seen in
    let fault = c.in_err-report.field-0.0 in
    at_err (λ r. HasPreviewed c.args.asked.now c.args.detail r (folder c.args.folder.now) (folder c.preview_all.new.folder)) c.from_residual.result (of_batch_fault fault) c.from_residual.ensures.1
    (preview_stopped c.args.asked.now c.args.detail fault c.in_err-report.ensures)

pub returns-in_err-report_text : goal.returns-in_err-report_text
returns-in_err-report_text g c =
    let folder = g.D.Folder.seen in
    at_err (λ r. HasPreviewed c.args.asked.now c.args.detail r (folder c.args.folder.now) (folder c.preview_all.new.folder)) c.from_residual-in_err-report_text.result stops.NoMemory c.from_residual-in_err-report_text.ensures.1
    (preview_lacks c.args.asked.now c.args.detail c.in_ok-report.report c.in_ok-report.ensures)

pub returns : goal.returns
returns g c = was_previewed c.args.asked.now c.args.detail c.in_ok-report.report c.in_ok-report.ensures c.in_ok-report_text.field-0 c.in_ok-report_text.ensures
