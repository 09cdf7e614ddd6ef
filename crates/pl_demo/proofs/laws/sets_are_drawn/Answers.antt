use Rattle.pl_demo.proofs.LawLemmas.{programs_drawn, sizes}
use Rattle.pl_demo.proofs.laws.sets_are_drawn.Goals as goal

pub returns-clause-sizes : goal.returns-clause-sizes
returns-clause-sizes c = sizes

pub returns-clause-programs : goal.returns-clause-programs
returns-clause-programs c = programs_drawn
