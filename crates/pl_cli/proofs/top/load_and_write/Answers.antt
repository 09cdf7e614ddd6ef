use Rattle.std.proofs.Common.{rules}
use Rattle.pl_cli.proofs.top.load_and_write.Goals as goal

pub returns-clause-ran : goal.returns-clause-ran
returns-clause-ran g c = c.load_placed.ensures.ran (λ at span align answer call. search rules)
