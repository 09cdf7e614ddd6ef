use Rattle.std.proofs.Common.{◌≡◌, ap, ◌∙◌, arith}
use Rattle.std.proofs.lemmas.List.{take_all}
use Rattle.pl_scope.specs.Scope.{walked}
use Rattle.pl_texts.specs.Order.{members_of}
use Rattle.pl_texts.proofs.OrderLemmas.{accepted_members, few_members}
use Rattle.pl_texts.proofs.ordering.scope_of.Goals as goal

pub new-requires-clause-few : goal.new-requires-clause-few
new-requires-clause-few c =
    let all : walked c.loop-member.scope.items ≡ members_of c.args.members.now = c.loop-member.invariant ∙ ap members_of (take_all c.loop-member.member-index c.args.members.now (omega arith)) in
    few_members c.args.members.now c.loop-member.scope.items c.requires.few all

pub new-requires-clause-accepted : goal.new-requires-clause-accepted
new-requires-clause-accepted c =
    let all : walked c.loop-member.scope.items ≡ members_of c.args.members.now = c.loop-member.invariant ∙ ap members_of (take_all c.loop-member.member-index c.args.members.now (omega arith)) in
    accepted_members c.args.members.now c.loop-member.scope.items c.requires.accepted all
