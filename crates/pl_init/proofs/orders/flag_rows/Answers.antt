use Rattle.pl_init.proofs.RelationLaws.{rows_numbered}
use Rattle.pl_init.proofs.orders.flag_rows.Goals as goal

pub flag_pairs-requires-clause-numbered : goal.flag_pairs-requires-clause-numbered
flag_pairs-requires-clause-numbered c = rw (c.count.ensures.count, c.as_slice.ensures) (rows_numbered c.args.scope.now c.args.reach.now.rows c.requires.right)
