use Rattle.std.proofs.Common.{◌≡◌, ℕ, List, subst, sym, arith}
use Rattle.std.specs.List.Sorted.{IsNonDecreasingBy}
use Rattle.pl_scope.specs.Entries.{AreUnder}
use Rattle.pl_scope.specs.declared.entries.Entry.{Entry}
use Rattle.pl_scope.proofs.scope_index.members_under.Goals as goal

pub under-requires : goal.under-requires
under-requires c = subst (λ (es : List Entry). IsNonDecreasingBy (λ e. e.key) es) (sym c.as_slice.ensures.value) c.requires

pub returns : goal.returns
returns c =
    let same : c.from.result ≡ c.args.key = omega arith in
    subst (λ (k : ℕ). AreUnder c.args.index.now.members.items k c.under.result.now) same
    (subst (λ (es : List Entry). AreUnder es c.from.result c.under.result.now) c.as_slice.ensures.value c.under.ensures)
