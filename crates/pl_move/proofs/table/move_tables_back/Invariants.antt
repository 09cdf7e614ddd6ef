use Rattle.std.proofs.Common.{◌≡◌, drop}
use Rattle.pl_move.specs.Moves as spec
use Rattle.pl_move.proofs.table.move_tables_back.Given as goal

abbrev pub invariant-loop-index : goal.invariant-loop-index
invariant-loop-index l = l.bytes ≡ spec.all_back l.less (drop l.index l.tables) l.initial.bytes
