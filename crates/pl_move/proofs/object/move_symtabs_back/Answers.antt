use Rattle.std.proofs.Common.{◌≤◌, ◌-◌, ◌<◌, length, arith}
use Rattle.pl_move.proofs.ObjectLaws.{symtab_room, symtab_back, none_back}
use Rattle.pl_move.proofs.object.move_symtabs_back.Goals as goal

pub loop-index-init : goal.loop-index-init
loop-index-init c = none_back c.args.slot c.args.symtabs.now c.args.bytes.now

pub move_table_back-requires : goal.move_table_back-requires
move_table_back-requires c =
    let le : c.loop-index.index ≤ length c.args.symtabs.now = c.loop-index.auto.index in
    rw c.loop-index.auto.bytes (symtab_room _ c.args.symtabs.now (c.loop-index.index - 1) _ c.range_window.result c.rows_of-table.result c.range_window.ensures c.rows_of-table.ensures (omega arith) c.requires)

pub loop-index-preserved : goal.loop-index-preserved
loop-index-preserved c =
    symtab_back c.args.slot c.args.symtabs.now c.loop-index.index _ c.range_window.result c.rows_of-table.result c.args.bytes.now c.loop-index.bytes _ c.range_window.ensures c.rows_of-table.ensures c.loop-index-test.true c.loop-index.auto.index c.loop-index.invariant c.move_table_back.ensures
