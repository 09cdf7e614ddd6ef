use Rattle.std.proofs.Common.{◌≡◌, [], take, drop}
use Rattle.pl_init.specs.Flags.{AreFlags}
use Rattle.pl_init.specs.Graph.{has_number}
use Rattle.pl_init.specs.Lawful as spec
use Rattle.pl_init.proofs.ordering.are_next.Given as goal

abbrev pub invariant-loop-member : goal.invariant-loop-member
invariant-loop-member l = record {
  so_far : spec.are_next l.table.rows.now l.count (take l.member-index l.order) (drop l.member-index l.order) ≡ spec.are_next l.table.rows.now l.count [] l.order;
  stands : AreFlags l.stands (has_number (take l.member-index l.order));
}
