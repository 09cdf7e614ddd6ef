use Rattle.std.proofs.Common.{ℕ, List, ap}
use Rattle.pl_scope.specs.Probing.{another, picks}
use Rattle.pl_scope.proofs.probe.has_another.Goals as goal

pub loop-at-init : goal.loop-at-init
loop-at-init c = record { given = c.requires.given; left = ap (λ (xs : List ℕ). another (picks c.args.probe.now c.args.pick) c.args.index xs) c.requires.all }
