use Rattle.std.proofs.Common.{◌≡◌, List, map, ap, ◌∙◌}
use Rattle.std.proofs.lemmas.List.{take_all}
use Rattle.pl_cone.specs.Candidates.{blocks}
use Rattle.pl_cone.proofs.MemberLaws.{blocks_are, few_blocks}
use Rattle.pl_scope.specs.declared.member.Member.{Member}
use Rattle.pl_tls.specs.Layout.{offsets}
use Rattle.pl_cone.proofs.scopes.modules_of.Goals as goal

pub offsets-requires : goal.offsets-requires
offsets-requires c =
    let all = ap (λ (ms : List Member). map (λ (m : Member). m.object.now.tls) ms) (take_all c.loop-member.member-index c.members-members.result.now c.loop-member-test.false) in
    rw (c.as_slice.ensures ∙ (c.loop-member.invariant ∙ all)) (few_blocks c.members-members.result.now c.args.scope.now c.members-members.ensures.members c.members-members.ensures.scope)

pub returns : goal.returns
returns c =
    let all = ap (λ (ms : List Member). map (λ (m : Member). m.object.now.tls) ms) (take_all c.loop-member.member-index c.members-members.result.now c.loop-member-test.false) in
    let told : c.as_slice.result.now ≡ blocks c.args.scope.now = c.as_slice.ensures ∙ (c.loop-member.invariant ∙ (all ∙ (blocks_are c.members-members.result.now ∙ ap blocks c.members-members.ensures.members))) in
    rw told at c.offsets.ensures
