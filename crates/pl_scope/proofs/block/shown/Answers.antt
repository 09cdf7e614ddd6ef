use Rattle.std.proofs.Common.{ℕ, List, subst, sym}
use Rattle.std.specs.List.Sorted.{IsNonDecreasingBy}
use Rattle.pl_scope.specs.Entries.{AreUnder}
use Rattle.pl_scope.specs.declared.entries.Entry.{Entry}
use Rattle.pl_scope.proofs.block.shown.Goals as goal

pub under-requires : goal.under-requires
under-requires c = subst (λ (es : List Entry). IsNonDecreasingBy (λ e. e.key) es) (sym c.as_slice.ensures.value) c.requires.shown

pub returns : goal.returns
returns c =
    subst (λ (k : ℕ). AreUnder c.args.lists.now.definers.now.shown.items k c.under.result.now) c.pair.ensures
    (subst (λ (es : List Entry). AreUnder es c.pair.result c.under.result.now) c.as_slice.ensures.value c.under.ensures)
