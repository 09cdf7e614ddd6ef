use Rattle.std.proofs.Common.{refl, arith}
use Rattle.pl_move.specs.Moves.{rows}
use Rattle.pl_move.proofs.TableLaws.{rows_more}
use Rattle.pl_form.specs.Extending.{with_strings}
use Rattle.pl_form.proofs.EntryLaws.{length-with_strings}
use Rattle.pl_form.proofs.program.name_strings.Goals as goal

pub loop-index-init : goal.loop-index-init
unfolding rows
loop-index-init c = refl

pub loop-index-preserved : goal.loop-index-preserved
loop-index-preserved c =
    rows_more 16 16 _ c.loop-index.index c.args.tags (with_strings c.args.address c.args.size) c.args.table.now c.loop-index.table _ (length-with_strings c.args.address c.args.size) (omega arith)
    (omega arith) c.loop-index-test.true c.requires c.loop-index.invariant c.set_strings.ensures
