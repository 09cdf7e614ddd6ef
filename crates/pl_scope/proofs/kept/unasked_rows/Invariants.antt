use Rattle.std.proofs.Common.{◌≡◌, map, take}
use Rattle.pl_scope.specs.Scope.{objects}
use Rattle.pl_scope.specs.Kept.{unasked_row}
use Rattle.pl_scope.proofs.kept.unasked_rows.Given as goal

abbrev pub invariant-loop-member : goal.invariant-loop-member
invariant-loop-member l = map (λ row. row.items) l.rows.items ≡ map unasked_row (take l.member (objects l.scope))
