use Rattle.std.proofs.Common.{◌≡◌, ◌∙◌, ℕ, List, ap, subst, sym, arith}
use Rattle.std.specs.List.Sorted.{IsNonDecreasingBy}
use Rattle.pl_scope.specs.Definers.{pair}
use Rattle.pl_scope.specs.Entries.{AreUnder}
use Rattle.pl_scope.specs.declared.entries.Entry.{Entry}
use Rattle.pl_scope.proofs.block.of_index.Goals as goal

pub under-requires : goal.under-requires
under-requires c = subst (λ (es : List Entry). IsNonDecreasingBy (λ e. e.key) es) (sym c.as_slice.ensures.value) c.requires.by_index

pub returns : goal.returns
returns c =
    let lists = c.args.lists.now in
    let same : c.from.result ≡ c.args.index = omega arith in
    let key : c.pair-key.result ≡ pair lists.key c.args.index = c.pair-key.ensures ∙ ap (λ (n : ℕ). pair lists.key n) same in
    subst (λ (k : ℕ). AreUnder lists.definers.now.by_index.items k c.under.result.now) key
    (subst (λ (es : List Entry). AreUnder es c.pair-key.result c.under.result.now) c.as_slice.ensures.value c.under.ensures)
