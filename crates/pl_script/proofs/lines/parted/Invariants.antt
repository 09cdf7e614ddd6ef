use Rattle.std.proofs.Common.{◌≡◌, ◌++◌, [], ◌∷◌, map}
use Rattle.pl_script.specs.Grammar.{line, pieces}
use Rattle.pl_script.proofs.lines.parted.Given as goal

abbrev pub invariant-loop-piece : goal.invariant-loop-piece
invariant-loop-piece l = l.lines.items ++ map line l.piece-iterator ≡ map line (pieces (10 ∷ []) l.fn.text)
