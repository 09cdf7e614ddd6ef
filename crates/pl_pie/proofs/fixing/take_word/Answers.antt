use Rattle.std.proofs.Common.{◌∙◌, arith}
use Rattle.pl_pie.proofs.WordLaws.{add8_wrapped}
use Rattle.pl_pie.proofs.fixing.take_word.Goals as goal

pub returns : goal.returns
returns c = c.add_word.ensures ∙ add8_wrapped c.args.less c.wrapping_neg.result c.args.at c.args.bytes.now c.ranges.less.fits c.wrapping_neg.ensures (omega arith)
