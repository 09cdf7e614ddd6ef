use Rattle.std.proofs.Common.{◌≡◌, ◌<◌, ◌∙◌, ap, arith, List, ℕ, length, get_or}
use Rattle.std.specs.List.{filter_map}
use Rattle.pl_scope.specs.Members.{names}
use Rattle.pl_scope.specs.Scope.{walked}
use Rattle.pl_init.specs.Graph.{number}
use Rattle.pl_init.proofs.NameLaws.{graph_more, graph_all, graph_sound}
use Rattle.pl_init.proofs.graph.graph_of.Goals as goal

pub loop-member-preserved : goal.loop-member-preserved
loop-member-preserved c =
    let small : c.loop-member.member-index < length c.args.members.now = c.loop-member-test.true in
    let item : c.member-item.result ≡ get_or c.args.members.now c.loop-member.member-index c.member-item.result = c.member-item.is in
    graph_more (names (walked c.args.members.now)) c.args.members.now c.loop-member.member-index c.member-item.result c.loop-member.graph c.push.new.self c.in_ok-numbers_of.field-0 small item c.loop-member.invariant
    (c.in_ok-numbers_of.ensures ∙ (ap (filter_map (number _)) c.as_slice.ensures ∙ ap (λ (ns : List (List ℕ)). filter_map (number ns) c.member-item.result.object.now.needed) c.in_ok-names.ensures)) c.in_ok-push.ensures.ok

pub returns-clause-value : goal.returns-clause-value
returns-clause-value c = graph_all c.args.members.now c.loop-member.member-index c.loop-member.graph (omega arith) c.loop-member.invariant

pub returns-clause-sound : goal.returns-clause-sound
returns-clause-sound c =
    rw (graph_all c.args.members.now c.loop-member.member-index c.loop-member.graph (omega arith) c.loop-member.invariant)
    (graph_sound (walked c.args.members.now) c.requires.few)
