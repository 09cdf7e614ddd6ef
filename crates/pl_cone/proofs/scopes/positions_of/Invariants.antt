use Rattle.std.proofs.Common.{◌≡◌, drop, length}
use Rattle.pl_cone.specs.Table.{positions_from, positions_of}
use Rattle.pl_cone.proofs.scopes.positions_of.Given as goal

abbrev pub invariant-loop-member : goal.invariant-loop-member
invariant-loop-member l = record {
  places : positions_from l.member l.positions.items (drop l.member l.rows) ≡ positions_of l.count l.rows;
  size : length l.positions.items ≡ l.count;
}
