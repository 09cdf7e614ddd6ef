use Rattle.std.proofs.Common.{◌≡◌, ◌∙◌, ap}
use Rattle.pl_scope.proofs.WalkedLaws.{walk_is_closed}
use Rattle.pl_init.specs.Graph.{graph}
use Rattle.pl_init.specs.Found.{all_reached}
use Rattle.pl_init.specs.Right.{is_right}
use Rattle.pl_init.proofs.RelationLaws.{relation, found_right, rows_numbered}
use Rattle.pl_init.proofs.certificate.reach.Goals as goal

pub graph_of-requires : goal.graph_of-requires
graph_of-requires c = rw c.members.ensures.members (walk_is_closed c.args.scope.now c.requires.walk)

pub returns-clause-relation : goal.returns-clause-relation
returns-clause-relation c =
    let is : c.in_ok-rows.rows ≡ all_reached (graph c.args.scope.now) = c.in_ok-rows.ensures ∙ ap all_reached (c.as_slice.ensures ∙ (c.in_ok-graph.ensures.value ∙ ap graph c.members.ensures.members)) in
    relation c.args.scope.now c.in_ok-rows.rows c.requires.walk (ap (is_right (graph c.args.scope.now)) is ∙ found_right c.args.scope.now)

pub returns-clause-numbered : goal.returns-clause-numbered
returns-clause-numbered c =
    let is : c.in_ok-rows.rows ≡ all_reached (graph c.args.scope.now) = c.in_ok-rows.ensures ∙ ap all_reached (c.as_slice.ensures ∙ (c.in_ok-graph.ensures.value ∙ ap graph c.members.ensures.members)) in
    rows_numbered c.args.scope.now c.in_ok-rows.rows (ap (is_right (graph c.args.scope.now)) is ∙ found_right c.args.scope.now)
