use Rattle.std.proofs.Common.{◌≡◌, ◌++◌}
use Rattle.pl_build.specs.Words as spec
use Rattle.pl_build.proofs.words.pieces.Given as goal

abbrev pub invariant-loop-piece : goal.invariant-loop-piece
invariant-loop-piece l = l.pieces.items ++ l.piece-iterator ≡ spec.pieces l.separator l.fn.text
