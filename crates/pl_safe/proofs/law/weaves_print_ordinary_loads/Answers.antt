use Rattle.pl_safe.proofs.TextLaws.{weaves_print_loads, weaves_print_ordinary}
use Rattle.pl_safe.proofs.law.weaves_print_ordinary_loads.Goals as goal

pub returns-clause-loads : goal.returns-clause-loads
returns-clause-loads c = weaves_print_loads

pub returns-clause-ordinary : goal.returns-clause-ordinary
returns-clause-ordinary c = weaves_print_ordinary
