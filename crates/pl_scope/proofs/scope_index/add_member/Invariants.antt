use Rattle.pl_scope.proofs.ScopeIndexLaws.{IsLastThere, IsMemberTo}
use Rattle.pl_scope.proofs.scope_index.add_member.Given as goal

abbrev pub invariant-loop-entry : goal.invariant-loop-entry
invariant-loop-entry l = record {
  so_far : IsMemberTo l.own l.member l.entry-index l.fn.members.items l.members.items;
  last : IsLastThere l.member l.last l.members.items;
}
