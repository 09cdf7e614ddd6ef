use Rattle.std.proofs.Common.{arith}
use Rattle.std.proofs.lemmas.List.{get_or_default}
use Rattle.pl_init.proofs.TableLaws.{one_cell}
use Rattle.pl_init.proofs.RowLaws.{Numbered, numbered_at, no_row, row_at}
use Rattle.pl_init.proofs.table.flag_pairs.Goals as goal

pub loop-row-preserved : goal.loop-row-preserved
loop-row-preserved c =
    let n : Numbered c.args.count (row_at c.args.rows.now c.loop-row.row-index) = numbered_at c.args.count c.loop-row.row-index c.args.rows.now c.requires.numbered c.loop-row-test.true in
    one_cell c.loop-row.cells c.args.rows.now c.loop-row.row-index c.cell.result (row_at c.args.rows.now c.loop-row.row-index) c.loop-row.invariant c.loop-row-test.true (get_or_default c.args.rows.now c.loop-row.row-index (row_at c.args.rows.now c.loop-row.row-index) no_row c.loop-row-test.true) (omega (arith, n.from, c.requires.few)) (omega (arith, n.to, c.requires.few)) c.cell.ensures.value
