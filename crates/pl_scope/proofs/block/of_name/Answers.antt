use Rattle.std.proofs.Common.{◌≡◌, ℕ, List, subst, sym, arith}
use Rattle.std.specs.List.Sorted.{IsNonDecreasingBy}
use Rattle.pl_scope.specs.Block.{end_of_name}
use Rattle.pl_scope.specs.Definers.{pair}
use Rattle.pl_scope.specs.Entries.{AreBetween}
use Rattle.pl_scope.specs.declared.entries.Entry.{Entry}
use Rattle.pl_scope.proofs.block.of_name.Goals as goal

pub between-requires-clause-rising : goal.between-requires-clause-rising
between-requires-clause-rising c = subst (λ (es : List Entry). IsNonDecreasingBy (λ e. e.key) es) (sym c.as_slice.ensures.value) c.requires.by_index

pub between-requires-clause-range : goal.between-requires-clause-range
between-requires-clause-range c = omega (arith, c.pair.ensures, c.pair-2.ensures)

pub returns : goal.returns
returns c =
    let lists = c.args.lists.now in
    let es = lists.definers.now.by_index.items in
    let found = c.between.result.now in
    let first : c.from-first.result ≡ pair lists.key 0 = omega (arith, c.pair.ensures) in
    let end : c.from-end.result ≡ end_of_name lists.key = omega (arith, c.pair-2.ensures) in
    subst (λ (k : ℕ). AreBetween es k (end_of_name lists.key) found) first
    (subst (λ (k : ℕ). AreBetween es c.from-first.result k found) end
    (subst (λ (xs : List Entry). AreBetween xs c.from-first.result c.from-end.result found) c.as_slice.ensures.value c.between.ensures))
