use Rattle.std.proofs.Common.{ℕ, ap, ◌∙◌}
use Rattle.std.specs.Prelude.{Vec}
use Rattle.std.specs.declared.alloc.Global.{Global}
use Rattle.pl_cli.specs.Came.{HasRemoved}
use Rattle.pl_texts.specs.Stops.{of_batch_fault}
use Rattle.pl_texts.specs.declared.stop.Stop.TheVariants as stops
use Rattle.pl_texts.proofs.StopLemmas.{at_err}
use Rattle.pl_cli.proofs.WriteLemmas.{removal_stopped, unsaid, was_removed}
use Rattle.pl_cli.proofs.change.remove.Goals as goal

pub returns-in_err-line : goal.returns-in_err-line
returns-in_err-line g c =
    let a = g.D.Folder.seen c.args.folder.now in
    at_err (λ r. HasRemoved c.args.name.now r a a) c.from_residual.result stops.NoMemory c.from_residual.ensures.1 (unsaid c.args.name.now a)

pub returns-in_err-remove : goal.returns-in_err-remove
returns-in_err-remove g c =
    let folder = g.D.Folder.seen in
    let fault = c.in_err-remove.field-0.0 in
    at_err (λ r. HasRemoved c.args.name.now r (folder c.args.folder.now) (folder c.remove.new.folder)) c.from_residual-in_err-remove.result (of_batch_fault fault) c.from_residual-in_err-remove.ensures.1
    (removal_stopped c.args.name.now fault c.in_err-remove.ensures.calls c.in_err-remove.ensures.named)

pub returns : goal.returns
returns g c = was_removed c.args.name.now c.into_bytes.result (ap (λ (v : Vec ℕ Global). v.items) c.into_bytes.ensures.value ∙ c.in_ok-line.ensures) c.in_ok-remove.ensures.named c.in_ok-remove.ensures.calls
