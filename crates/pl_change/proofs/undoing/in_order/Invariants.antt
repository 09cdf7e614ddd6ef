use Rattle.std.proofs.Common.{drop}
use Rattle.pl_journal.specs.Lists.{texts}
use Rattle.pl_change.proofs.LookedLemmas.{InOrder}
use Rattle.pl_change.proofs.undoing.in_order.Given as goal

abbrev pub invariant-loop-name : goal.invariant-loop-name
invariant-loop-name l = InOrder (texts l.names) (texts (drop l.name-index l.names)) l.fn.looked l.left l.rows
