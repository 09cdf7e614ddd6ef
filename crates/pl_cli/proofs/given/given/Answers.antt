use Rattle.pl_cli.specs.Came.{HasGiven}
use Rattle.pl_cli.proofs.GivenLemmas.{given_so, not_taken}
use Rattle.pl_texts.proofs.StopLemmas.{at_err}
use Rattle.pl_cli.proofs.given.given.Goals as goal

pub returns-in_err-bytes-clause-given : goal.returns-in_err-bytes-clause-given
returns-in_err-bytes-clause-given g c =
    let seen = g.D.Folder.seen in
    let stop = c.in_err-bytes.field-0.0 in
    at_err (λ r. HasGiven c.args.asked c.args.name.now c.args.wanted.now r (seen c.args.folder.now) (seen c.take.new.folder)) c.from_residual.result stop c.from_residual.ensures.1
    (not_taken c.args.asked c.args.name.now c.args.wanted.now stop c.in_err-bytes.ensures.taken)

pub returns-clause-given : goal.returns-clause-given
returns-clause-given g c = given_so c.args.asked c.args.name.now c.args.wanted.now c.in_ok-bytes.bytes c.in_ok-bytes.ensures.taken c.given_at.result c.given_at.ensures.means
