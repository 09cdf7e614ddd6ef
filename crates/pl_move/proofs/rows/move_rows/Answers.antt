use Rattle.std.proofs.Common.{refl, arith, ◌∙◌, ap, ◌≡◌, ◌-◌, ◌+◌, ◌*◌, ℕ, List}
use borrow.Rule.Slice.PartMut.{put_mid}
use Rattle.pl_move.specs.Moves.{row_size, row_moved, rows}
use Rattle.pl_move.proofs.MoveLaws.{length-row_moved}
use Rattle.pl_move.proofs.TableLaws.{rows_more}
use Rattle.pl_move.proofs.rows.move_rows.Goals as goal

pub loop-index-init : goal.loop-index-init
unfolding rows
loop-index-init c = refl

pub loop-index-preserved : goal.loop-index-preserved
loop-index-preserved c =
    rows_more (row_size c.args.kind) _ _ c.loop-index.index c.args.count (row_moved c.args.more c.args.kind) c.args.rows.now c.loop-index.rows _ (length-row_moved c.args.more c.args.kind) c.row_size-size.ensures.size
    (omega (arith, c.row_size-size.ensures.size)) c.loop-index-test.true c.requires c.loop-index.invariant c.move_row.ensures
