use Rattle.std.proofs.Common.{◌≡◌, ◌∙◌, List, ℕ, sym, ap}
use Rattle.std.proofs.lemmas.Bool.{OnTrue_from}
use Rattle.pl_scope.proofs.WalkedLaws.{walk_is_closed}
use Rattle.pl_init.specs.Graph.{graph}
use Rattle.pl_init.specs.Right.{is_right, AreReaches}
use Rattle.pl_init.proofs.RelationLaws.{relation}
use Rattle.pl_init.proofs.certificate.right.Goals as goal

pub graph_of-requires : goal.graph_of-requires
graph_of-requires c = rw c.members.ensures.members (walk_is_closed c.args.scope.now c.requires.walk)

pub returns-clause-relation : goal.returns-clause-relation
returns-clause-relation c =
    let is : c.rows_are_right.result ≡ is_right (graph c.args.scope.now) c.args.reach.now.rows =
    c.rows_are_right.ensures ∙ (ap (λ (g : List (List ℕ)). is_right g c.as_slice-2.result.now) (c.as_slice.ensures ∙ (c.in_ok-graph.ensures.value ∙ ap graph c.members.ensures.members)) ∙ ap (is_right (graph c.args.scope.now)) c.as_slice-2.ensures) in
    OnTrue_from c.rows_are_right.result (AreReaches c.args.scope.now c.args.reach.now.rows) (λ t. relation c.args.scope.now c.args.reach.now.rows c.requires.walk (sym is ∙ t))
