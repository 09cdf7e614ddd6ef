use Rattle.std.proofs.Common.{◌≡◌, drop, map}
use Rattle.pl_move.specs.Moves as moves
use Rattle.pl_move.specs.Objects as spec
use Rattle.pl_move.proofs.object.move_symtabs_back.Given as goal

abbrev pub invariant-loop-index : goal.invariant-loop-index
invariant-loop-index l = l.bytes ≡ moves.all_back l.slot (drop l.index (map spec.symbol_rows l.symtabs)) l.initial.bytes
