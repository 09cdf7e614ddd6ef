use Rattle.std.proofs.Common.{sym, ◌∙◌, ap, ◌≤◌, ◌-◌, ◌<◌, length, drop, arith, List}
use Rattle.std.proofs.lemmas.List.{drop_all}
use Rattle.pl_move.specs.Moves.{all_back}
use Rattle.pl_move.specs.declared.table.Table.{Table}
use Rattle.pl_move.proofs.TableLaws.{all_back-none, back_more, windows_at}
use Rattle.pl_move.proofs.table.move_tables_back.Goals as goal

pub loop-index-init : goal.loop-index-init
loop-index-init c = sym (all_back-none c.args.less c.args.bytes.now) ∙ ap (λ (ts : List Table). all_back c.args.less ts c.args.bytes.now) (sym (drop_all (length c.args.tables.now) c.args.tables.now (omega arith)))

pub move_table_back-requires : goal.move_table_back-requires
move_table_back-requires c =
    let le : c.loop-index.index ≤ length c.args.tables.now = c.loop-index.auto.index in
    rw c.loop-index.auto.bytes (windows_at _ c.args.tables.now (c.loop-index.index - 1) _ c.requires (omega arith))

pub loop-index-preserved : goal.loop-index-preserved
loop-index-preserved c = back_more c.args.less c.args.tables.now c.loop-index.index _ c.args.bytes.now c.loop-index.bytes _ c.loop-index-test.true c.loop-index.auto.index c.loop-index.invariant c.move_table_back.ensures
