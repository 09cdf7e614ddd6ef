use Rattle.std.proofs.Common.{◌≡◌}
use Rattle.pl_move.specs.Moves as spec
use Rattle.pl_move.proofs.rows.move_rows.Given as goal

abbrev pub invariant-loop-index : goal.invariant-loop-index
invariant-loop-index l = l.rows ≡ spec.rows (spec.row_size l.kind) (spec.row_moved l.more l.kind) l.index l.initial.rows
