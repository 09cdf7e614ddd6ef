use Rattle.pl_move.proofs.ObjectLaws.{tables_in}
use Rattle.pl_move.proofs.object.tables_lie_in_the_file.Goals as goal

pub returns : goal.returns
returns c = tables_in
