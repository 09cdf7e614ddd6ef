use Rattle.pl_pie.proofs.ExactLaws.{unfix_exact}
use Rattle.pl_pie.proofs.UnfixLaws.{unfix_undoes}
use Rattle.pl_pie.proofs.law.unfix_is_exact.Goals as goal

pub returns-clause-exact : goal.returns-clause-exact
returns-clause-exact c = unfix_exact

pub returns-clause-undoes : goal.returns-clause-undoes
returns-clause-undoes c = unfix_undoes
