use Rattle.std.proofs.Common.{sym}
use Rattle.pl_move.proofs.TableLaws.{all_moved-none}
use Rattle.pl_move.proofs.ObjectLaws.{symtab_room, symtab_more}
use Rattle.pl_move.proofs.object.move_symtabs.Goals as goal

pub loop-range-init : goal.loop-range-init
loop-range-init c = sym (all_moved-none c.args.slot c.args.bytes.now)

pub move_table-requires : goal.move_table-requires
move_table-requires c = rw c.loop-range.auto.bytes (symtab_room _ c.args.symtabs.now c.loop-range.range-index _ c.range_window.result c.rows_of-table.result c.range_window.ensures c.rows_of-table.ensures c.loop-range-test.true c.requires)

pub loop-range-preserved : goal.loop-range-preserved
loop-range-preserved c =
    symtab_more c.args.slot c.args.symtabs.now c.loop-range.range-index _ c.range_window.result c.rows_of-table.result c.args.bytes.now c.loop-range.bytes _ c.range_window.ensures c.rows_of-table.ensures c.loop-range-test.true c.loop-range.invariant c.move_table.ensures
