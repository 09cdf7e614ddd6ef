use Rattle.std.proofs.Common.{ap, ◌∙◌}
use Rattle.pl_cli.specs.Came.{HasPrelinked}
use Rattle.pl_texts.specs.Reports.{report_text}
use Rattle.pl_texts.specs.Stops.{of_batch_fault}
use Rattle.pl_texts.proofs.StopLemmas.{at_err}
use Rattle.pl_cli.proofs.WriteLemmas.{prelinking_stopped, was_prelinked}
use Rattle.pl_cli.proofs.all.prelink.Goals as goal

pub returns-in_err-text : goal.returns-in_err-text
returns-in_err-text g c =
    let folder = g.D.Folder.seen in
    let fault = c.in_err-text.field-0.0 in
    at_err (λ r. HasPrelinked c.args.asked.now c.args.detail r (folder c.args.folder.now) (folder c.prelink_all.new.folder)) c.from_residual.result (of_batch_fault fault) c.from_residual.ensures.1
    (prelinking_stopped c.args.asked.now c.args.detail fault c.in_err-text.ensures.calls)

pub returns : goal.returns
returns g c = was_prelinked c.args.asked.now c.args.detail c.in_ok-text.text c.in_ok-text.ensures.calls (λ told before is.
    let made = c.in_ok-text.ensures.told told before is in
    (made.0, made.1, made.2.1 ∙ ap (report_text c.args.detail) made.2.2))
