use Rattle.std.proofs.Common.{◌≡◌, ℕ, subst, arith}
use Rattle.pl_scope.specs.Definers.{pair}
use Rattle.pl_scope.specs.Entries.{AreUnder}
use Rattle.pl_scope.proofs.short_index.of_member.Goals as goal

pub range-requires-clause-range : goal.range-requires-clause-range
range-requires-clause-range c = omega arith

pub returns : goal.returns
returns c =
    let key : c.from-key.result ≡ pair c.args.hash c.args.member = omega (arith, c.pair.ensures) in
    subst (λ (k : ℕ). AreUnder c.args.index.now.definers.entries.items k c.range.result.now) key c.range.ensures
