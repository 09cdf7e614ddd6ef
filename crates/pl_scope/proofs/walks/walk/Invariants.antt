use Rattle.std.proofs.Common.{◌≡◌, length}
use Rattle.std.specs.List.{All}
use Rattle.indexmap.specs.IndexMap.{get_by_text}
use Rattle.pl_scope.specs.Scope.{walked, IsAccepted}
use Rattle.pl_scope.specs.Walk.{IsUnderWay, itself, object_of}
use Rattle.pl_scope.proofs.walks.walk.Given as goal

abbrev pub invariant-loop-count : goal.invariant-loop-count
invariant-loop-count l = record {
  under_way : IsUnderWay itself (object_of (get_by_text l.objects)) l.fn.name (walked l.members.items) l.order;
  given : l.order.given ≡ l._count;
  count : length l.members.items ≡ l._count;
  accepted : All (λ m. IsAccepted m.object.now) l.members.items;
}
