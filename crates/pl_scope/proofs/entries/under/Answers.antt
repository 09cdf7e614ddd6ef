use Rattle.std.proofs.Common.{◌≡◌, ℕ, subst, arith}
use Rattle.pl_scope.specs.Entries.{AreUnder}
use Rattle.pl_scope.proofs.entries.under.Goals as goal

pub returns : goal.returns
returns c =
    let same : c.from-key.result ≡ c.args.key = omega arith in
    subst (λ (k : ℕ). AreUnder c.args.entries.now k c.between.result.now) same c.between.ensures
