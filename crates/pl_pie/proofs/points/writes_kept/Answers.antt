use Rattle.pl_move.proofs.ObjectLaws.{tables_in}
use Rattle.pl_pie.proofs.points.writes_kept.Goals as goal

pub tables_meet-requires : goal.tables_meet-requires
tables_meet-requires c = tables_in c.args.program.now c.args.object.now c.requires.accepted c.requires.dynamic
