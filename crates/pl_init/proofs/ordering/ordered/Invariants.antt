use Rattle.std.proofs.Common.{◌≡◌, ◌-◌, []}
use Rattle.pl_init.specs.Flags.{AreFlags}
use Rattle.pl_init.specs.Graph.{has_number}
use Rattle.pl_init.specs.Lawful as spec
use Rattle.pl_init.proofs.ordering.ordered.Given as goal

abbrev pub invariant-loop-turn : goal.invariant-loop-turn
invariant-loop-turn l = record {
  so_far : spec.ordered l.table.rows.now l.count (l.count - l._turn) l.order.items ≡ spec.ordered l.table.rows.now l.count l.count [];
  stands : AreFlags l.stands (has_number l.order.items);
}
