use Rattle.std.proofs.Common.{take}
use Rattle.pl_scope.proofs.NumberLaws.{AreVersionsTo}
use Rattle.pl_scope.proofs.numbers.add_versions.Given as goal

abbrev pub invariant-loop-row : goal.invariant-loop-row
invariant-loop-row l = AreVersionsTo (take l.row-index l.row-items) l.fn.numbers l.numbers
