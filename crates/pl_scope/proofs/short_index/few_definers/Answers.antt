use Rattle.std.proofs.Common.{List, subst, sym}
use Rattle.pl_scope.specs.Scope.{objects}
use Rattle.pl_scope.specs.ShortIndex.{AreSorted}
use Rattle.pl_scope.specs.declared.entries.Entry.{Entry}
use Rattle.pl_scope.proofs.ShortIndexLaws.{sorted_are}
use Rattle.pl_scope.proofs.short_index.few_definers.Goals as goal

pub returns-in_ok-sorted_of : goal.returns-in_ok-sorted_of
returns-in_ok-sorted_of c =
    let os = objects c.args.scope.now in
    let sorted = c.sort_entries.new.entries.items in
    subst (λ (es : List Entry). AreSorted os es) (sym c.in_ok-sorted_of.ensures) (sorted_are os c.in_ok-entries.entries.items sorted c.in_ok-entries.ensures c.sort_entries.ensures.same c.sort_entries.ensures.rising)
