use Rattle.std.proofs.Common.{arith}
use Rattle.std.proofs.lemmas.Bool.{OnTrue_from, leb-true}
use Rattle.pl_image.proofs.RangeLemmas.{first_end}
use Rattle.pl_image.proofs.ranges.all_end_by.Goals as goal

pub returns-else-index-eq0 : goal.returns-else-index-eq0
returns-else-index-eq0 c =
    OnTrue_from _ _ (λ hit. first_end c.args.ranges.now c.args.address c.args.index (record { start = 0; end = 0 }) c.requires.rises (omega (arith, c.if-index-eq0.false)) c.requires.bound (leb-true _ _ hit))
