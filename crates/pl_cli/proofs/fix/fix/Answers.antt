use Rattle.std.proofs.Common.{rules}
use Rattle.pl_pie.proofs.HoldLaws.{by_function}
use Rattle.pl_cli.specs.Came.{HasFixed}
use Rattle.pl_cli.specs.Load.{choice}
use Rattle.pl_texts.specs.Stops.{of_batch_fault}
use Rattle.pl_cli.proofs.FixLemmas.{fixing_stopped, was_fixed}
use Rattle.pl_texts.proofs.StopLemmas.{at_err}
use Rattle.pl_cli.proofs.fix.fix.Goals as goal

pub returns-in_err-fix_file : goal.returns-in_err-fix_file
returns-in_err-fix_file g c =
    let folder = g.D.Folder.seen in
    let fault = c.in_err-fix_file.field-0.0 in
    let fixes = by_function c.in_err-fix_file.ensures.fixes (choice c.args.asked) (λ at span align answer call. search rules) in
    at_err (λ r. HasFixed c.args.name.now c.args.asked r (folder c.args.folder.now) (folder c.fix_file.new.folder)) c.from_residual.result (of_batch_fault fault) c.from_residual.ensures.1
    (fixing_stopped c.args.name.now c.args.asked fault fixes.calls c.in_err-fix_file.ensures.named)

pub returns : goal.returns
returns g c =
    let fixes = by_function c.in_ok-fix_file.ensures.fixes (choice c.args.asked) (λ at span align answer call. search rules) in
    was_fixed c.args.name.now c.args.asked c.in_ok-fix_file.field-0 c.in_ok-fix_file.ensures.named fixes.calls fixes.told
