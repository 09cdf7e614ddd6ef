use Rattle.std.proofs.Common.{subst}
use Rattle.pl_scope.specs.Folder.{IsWayAt}
use Rattle.pl_scope.specs.Scope.{objects}
use Rattle.pl_scope.specs.declared.lookup.Way.{Way}
use Rattle.pl_scope.proofs.ScopeIndexLaws.{way_at}
use Rattle.pl_scope.proofs.lookup.in_member.Goals as goal

pub matching_by_index-matched-requires-clause-own : goal.matching_by_index-matched-requires-clause-own
matching_by_index-matched-requires-clause-own c =
    let o = c.object-object.result.now in
    subst (λ (w : Way). IsWayAt w c.args.member o) c.in-Indexed.is (way_at (objects c.args.scope.now) c.args.way c.args.member o c.requires.way c.object-object.ensures.object)

pub matching_by_short-matched-requires-clause-own : goal.matching_by_short-matched-requires-clause-own
matching_by_short-matched-requires-clause-own c =
    let o = c.object-object.result.now in
    subst (λ (w : Way). IsWayAt w c.args.member o) c.in-Short.is (way_at (objects c.args.scope.now) c.args.way c.args.member o c.requires.way c.object-object.ensures.object)
