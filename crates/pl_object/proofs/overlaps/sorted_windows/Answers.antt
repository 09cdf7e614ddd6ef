use Rattle.std.proofs.Common.{List, subst}
use Rattle.std.specs.List.Sorted.{IsPermutation}
use Rattle.pl_base.specs.Windows.{Window}
use Rattle.pl_object.proofs.overlaps.sorted_windows.Goals as goal

pub returns-clause-same : goal.returns-clause-same
returns-clause-same c = subst (λ (ws : List Window). IsPermutation ws c.sort_windows.new.windows.items) c.in_ok-sorted.ensures.items c.sort_windows.ensures.same
