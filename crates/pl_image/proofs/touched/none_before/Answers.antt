use Rattle.std.proofs.lemmas.Bool.{OnTrue_from, leb-true}
use Rattle.pl_image.proofs.TouchLemmas.{others_after}
use Rattle.pl_image.proofs.touched.none_before.Goals as goal

pub returns-else-index-touched : goal.returns-else-index-touched
returns-else-index-touched c =
    OnTrue_from _ _ (λ hit. others_after c.args.touched.now c.args.number c.args.index (record { number = 0; patch = 0 }) c.requires.rising (leb-true _ _ hit))
