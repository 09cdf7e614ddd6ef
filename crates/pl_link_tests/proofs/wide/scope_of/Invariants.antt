use Rattle.std.proofs.Common.{◌≡◌, ◌+◌, length}
use Rattle.std.specs.List.{All}
use Rattle.pl_scope.specs.Scope.{IsAccepted}
use Rattle.pl_link_tests.proofs.wide.scope_of.Given as goal

abbrev pub invariant-loop-index : goal.invariant-loop-index
invariant-loop-index l = record {
  count : length l.members.items ≡ l.index-counter + 1;
  accepted : All (λ m. IsAccepted m.object.now) l.members.items;
}
