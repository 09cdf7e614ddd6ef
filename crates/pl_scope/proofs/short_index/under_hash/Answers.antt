use Rattle.std.proofs.Common.{◌≡◌, ◌+◌, ℕ, subst, arith}
use Rattle.pl_scope.specs.Definers.{pair}
use Rattle.pl_scope.specs.Entries.{AreBetween}
use Rattle.pl_scope.specs.ShortIndex.{end_of_hash}
use Rattle.pl_scope.proofs.short_index.under_hash.Goals as goal

pub range-requires-clause-range : goal.range-requires-clause-range
range-requires-clause-range c = omega arith

pub returns : goal.returns
returns c =
    let es = c.args.index.now.definers.entries.items in
    let found = c.range.result.now in
    let first : c.from-first.result ≡ pair c.args.hash 0 = omega (arith, c.pair.ensures) in
    let end : c.from-first.result + c.from.result ≡ end_of_hash c.args.hash c.args.count = omega (arith, c.pair.ensures) in
    subst (λ (k : ℕ). AreBetween es k (end_of_hash c.args.hash c.args.count) found) first (subst (λ (k : ℕ). AreBetween es c.from-first.result k found) end c.range.ensures)
