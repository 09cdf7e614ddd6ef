use Rattle.std.proofs.Common.{◌≡◌, take}
use Rattle.pl_move.specs.Moves as spec
use Rattle.pl_move.proofs.table.move_tables.Given as goal

abbrev pub invariant-loop-table : goal.invariant-loop-table
invariant-loop-table l = l.bytes ≡ spec.all_moved l.more (take l.table-index l.tables) l.initial.bytes
