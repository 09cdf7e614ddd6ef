use Rattle.std.proofs.Common.{ℕ, List, None, ap}
use Rattle.pl_scope.specs.Probing.{least_from, picks}
use Rattle.pl_scope.proofs.probe.least.Goals as goal

pub loop-at-init : goal.loop-at-init
loop-at-init c = record { given = c.requires.given; left = ap (λ (xs : List ℕ). least_from (picks c.args.probe.now c.args.pick) None xs) c.requires.all }
