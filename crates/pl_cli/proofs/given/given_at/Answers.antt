use Rattle.std.proofs.Common.{ap, rules}
use Rattle.pl_base.specs.Answers.{because}
use Rattle.pl_cli.specs.Load.{choice, given_file}
use Rattle.pl_texts.specs.Stops.{MeansAlone, of_load_fault}
use Rattle.pl_texts.specs.declared.cause.Cause.TheVariants as causes
use Rattle.pl_cli.proofs.GivenLemmas.{stops_load}
use Rattle.pl_texts.proofs.StopLemmas.{at_err}
use Rattle.pl_cli.proofs.given.given_at.Goals as goal

-- the placer that is made here follows the policy
pub returns-in_err-given_file-clause-means : goal.returns-in_err-given_file-clause-means
returns-in_err-given_file-clause-means c =
    let e = c.in_err-given_file.field-0.0 in
    at_err (λ r. MeansAlone (given_file c.args.asked c.args.name.now c.args.wanted.now c.args.bytes.items) r) c.from_residual.result (of_load_fault e) c.from_residual.ensures.1
    (stops_load _ e (c.in_err-given_file.ensures.means (choice c.args.asked) (λ at span align answer call. search rules)))

pub returns-clause-means : goal.returns-clause-means
returns-clause-means c = ap (because causes.Load) (c.in_ok-given_file.ensures.means (choice c.args.asked) (λ at span align answer call. search rules))
