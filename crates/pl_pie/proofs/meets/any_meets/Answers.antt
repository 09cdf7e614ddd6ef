use Rattle.pl_move.proofs.TableLaws.{windows_at}
use Rattle.pl_pie.proofs.meets.any_meets.Goals as goal

pub table_meets-requires : goal.table_meets-requires
table_meets-requires c = windows_at _ c.args.tables.now c.loop-table.table-index _ c.requires c.loop-table-test.true
