use Rattle.std.proofs.Common.{◌≡◌, map}
use Rattle.std.specs.Prelude.{filter}
use Rattle.std.specs.List.{range_with_len}
use Rattle.pl_cone.specs.Slots.{positions, positions_in}
use Rattle.pl_cone.specs.Table.{is_candidate_row, walk_of}
use Rattle.pl_cone.proofs.planning.table_walks.Given as goal

abbrev pub invariant-loop-row : goal.invariant-loop-row
invariant-loop-row l = l.rows ≡ map (λ row. positions_in (positions l.table) (walk_of l.table row)) (filter (is_candidate_row l.table) (range_with_len 0 l.row))
