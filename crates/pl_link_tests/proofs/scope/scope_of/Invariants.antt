use Rattle.std.proofs.Common.{◌≡◌, length}
use Rattle.std.specs.List.{All}
use Rattle.pl_scope.specs.Scope.{IsAccepted}
use Rattle.pl_link_tests.proofs.scope.scope_of.Given as goal

abbrev pub invariant-loop-object : goal.invariant-loop-object
invariant-loop-object l = record {
  count : length l.members.items ≡ l.object-index;
  accepted : All (λ m. IsAccepted m.object.now) l.members.items;
}
