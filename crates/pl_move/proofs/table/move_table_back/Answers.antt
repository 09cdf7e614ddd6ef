use Rattle.std.proofs.Common.{◌∙◌, arith}
use Rattle.pl_move.proofs.TableLaws.{moved_wrapped}
use Rattle.pl_move.proofs.table.move_table_back.Goals as goal

pub returns : goal.returns
returns c = c.move_table.ensures ∙ moved_wrapped c.args.less c.wrapping_neg.result c.args.table.now c.args.bytes.now c.ranges.less.fits c.wrapping_neg.ensures (omega arith)
