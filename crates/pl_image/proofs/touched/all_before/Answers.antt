use Rattle.std.proofs.Common.{arith}
use Rattle.std.proofs.lemmas.Bool.{OnTrue_from, ltb-true}
use Rattle.pl_image.proofs.TouchLemmas.{first_before}
use Rattle.pl_image.proofs.touched.all_before.Goals as goal

pub returns-else-index-eq0 : goal.returns-else-index-eq0
returns-else-index-eq0 c =
    OnTrue_from _ _ (λ hit. first_before c.args.touched.now c.args.number c.args.index (record { number = 0; patch = 0 }) c.requires.rising (omega (arith, c.if-index-eq0.false)) c.requires.bound (ltb-true _ _ hit))
