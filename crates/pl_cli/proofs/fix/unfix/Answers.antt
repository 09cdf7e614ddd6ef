use Rattle.std.proofs.Common.{ℕ, ap, ◌∙◌}
use Rattle.std.specs.Prelude.{Vec}
use Rattle.std.specs.declared.alloc.Global.{Global}
use Rattle.pl_cli.specs.Came.{HasUnfixed}
use Rattle.pl_texts.specs.Stops.{of_batch_fault}
use Rattle.pl_texts.specs.declared.stop.Stop.TheVariants as stops
use Rattle.pl_texts.proofs.StopLemmas.{at_err}
use Rattle.pl_cli.proofs.FixLemmas.{loosening_stopped, not_said, was_loosened}
use Rattle.pl_cli.proofs.fix.unfix.Goals as goal

pub returns-in_err-line : goal.returns-in_err-line
returns-in_err-line g c =
    let a = g.D.Folder.seen c.args.folder.now in
    at_err (λ r. HasUnfixed c.args.name.now r a a) c.from_residual.result stops.NoMemory c.from_residual.ensures.1 (not_said c.args.name.now a)

pub returns-in_err-unfix_file : goal.returns-in_err-unfix_file
returns-in_err-unfix_file g c =
    let folder = g.D.Folder.seen in
    let fault = c.in_err-unfix_file.field-0.0 in
    at_err (λ r. HasUnfixed c.args.name.now r (folder c.args.folder.now) (folder c.unfix_file.new.folder)) c.from_residual-in_err-unfix_file.result (of_batch_fault fault) c.from_residual-in_err-unfix_file.ensures.1
    (loosening_stopped c.args.name.now fault c.in_err-unfix_file.ensures.calls c.in_err-unfix_file.ensures.named)

pub returns : goal.returns
returns g c = was_loosened c.args.name.now c.into_bytes.result (ap (λ (v : Vec ℕ Global). v.items) c.into_bytes.ensures.value ∙ c.in_ok-line.ensures) c.in_ok-unfix_file.ensures.named c.in_ok-unfix_file.ensures.calls
