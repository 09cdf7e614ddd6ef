use Rattle.std.proofs.Common.{◌≡◌, map}
use Rattle.std.specs.List.{filter_map, range_with_len}
use Rattle.pl_cone.specs.Slots.{position_at, want_at}
use Rattle.pl_cone.proofs.planning.wanting_of.Given as goal

abbrev pub invariant-loop-row : goal.invariant-loop-row
invariant-loop-row l = record {
  wants : l.wanting.wants ≡ filter_map (want_at l.table) (range_with_len 0 l.row);
  positions : l.wanting.positions.items ≡ map (position_at l.table) (range_with_len 0 l.row);
}
