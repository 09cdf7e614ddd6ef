use Rattle.std.proofs.Common.{◌≡◌, take, map}
use Rattle.pl_move.specs.Moves as moves
use Rattle.pl_move.specs.Objects as spec
use Rattle.pl_move.proofs.object.move_symtabs.Given as goal

abbrev pub invariant-loop-range : goal.invariant-loop-range
invariant-loop-range l = l.bytes ≡ moves.all_moved l.slot (take l.range-index (map spec.symbol_rows l.symtabs)) l.initial.bytes
