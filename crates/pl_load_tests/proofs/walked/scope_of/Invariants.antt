use Rattle.std.proofs.Common.{◌≡◌, ◌++◌, drop, map, length}
use Rattle.std.specs.List.{All}
use Rattle.pl_scope.specs.Scope.{IsAccepted}
use Rattle.pl_load_tests.proofs.walked.scope_of.Given as goal

abbrev pub invariant-loop-original : goal.invariant-loop-original
invariant-loop-original l = record {
  count : length l.members.items ≡ l.original-index;
  accepted : All (λ m. IsAccepted m.object.now) l.members.items;
  objects : map (λ m. m.object.now) l.members.items ++ map (λ f. f.object) (drop l.original-index l.order) ≡ map (λ f. f.object) l.order;
}
