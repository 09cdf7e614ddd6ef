use Rattle.pl_cli.specs.Came.{HasVerified}
use Rattle.pl_texts.specs.Stops.{of_batch_fault}
use Rattle.pl_cli.proofs.VerifyLemmas.{verify_stopped, was_verified}
use Rattle.pl_texts.proofs.StopLemmas.{at_err}
use Rattle.pl_cli.proofs.verify.verify.Goals as goal

pub returns-in_err-verify-clause-verified : goal.returns-in_err-verify-clause-verified
returns-in_err-verify-clause-verified g c =
    let folder = g.D.Folder.seen in
    let fault = c.in_err-verify.field-0.0 in
    at_err (λ r. HasVerified c.args.name.now r (folder c.args.folder.now) (folder c.verify.new.folder)) c.from_residual.result (of_batch_fault fault) c.from_residual.ensures.1
    (verify_stopped c.args.name.now fault c.in_err-verify.ensures.found (λ invalid. (c.in_err-verify.ensures.bad_name invalid).0))

pub returns-clause-verified : goal.returns-clause-verified
returns-clause-verified g c = was_verified c.args.name.now c.in_ok-verify.field-0 c.in_ok-verify.ensures.found (λ invalid. (c.in_ok-verify.ensures.bad_name invalid).0)
