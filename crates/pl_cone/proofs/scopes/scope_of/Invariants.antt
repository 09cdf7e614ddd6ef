use Rattle.std.proofs.Common.{◌≡◌, ◌++◌, drop}
use Rattle.std.specs.List.{All}
use Rattle.pl_scope.specs.Scope.{walked, IsAccepted}
use Rattle.pl_cone.specs.Table.{walked_by}
use Rattle.pl_cone.proofs.scopes.scope_of.Given as goal

abbrev pub invariant-loop-row : goal.invariant-loop-row
invariant-loop-row l = record {
  members : walked l.members.items ++ walked_by l.files (drop l.row-index l.rows) ≡ walked_by l.files l.rows;
  accepted : All (λ m. IsAccepted m.object.now) l.members.items;
}
