use Rattle.std.proofs.Common.{sym, arith}
use Rattle.pl_move.proofs.TableLaws.{all_moved-none, tables_more, windows_at}
use Rattle.pl_move.proofs.table.move_tables.Goals as goal

pub loop-table-init : goal.loop-table-init
loop-table-init c = sym (all_moved-none c.args.more c.args.bytes.now)

pub move_table-requires : goal.move_table-requires
move_table-requires c = rw c.loop-table.auto.bytes (windows_at _ c.args.tables.now c.loop-table.table-index _ c.requires c.loop-table-test.true)

pub loop-table-preserved : goal.loop-table-preserved
loop-table-preserved c = tables_more c.args.more c.args.tables.now c.loop-table.table-index _ c.args.bytes.now c.loop-table.bytes _ c.loop-table-test.true c.loop-table.invariant c.move_table.ensures
