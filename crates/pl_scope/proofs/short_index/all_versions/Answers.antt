use Rattle.std.proofs.Common.{◌≤◌, length, arith}
use Rattle.pl_scope.specs.Scope.{objects}
use Rattle.pl_scope.proofs.MemberLaws.{length_objects}
use Rattle.pl_scope.proofs.ShortIndexLaws.{versions_done, versions_more, versions_none}
use Rattle.pl_scope.proofs.short_index.all_versions.Goals as goal

pub loop-member-init : goal.loop-member-init
loop-member-init c = versions_none (objects c.args.scope.now) c.new-versions.result.items c.new-versions.ensures.items

pub loop-member-preserved : goal.loop-member-preserved
loop-member-preserved c =
    versions_more (objects c.args.scope.now) c.loop-member.member c.object-object.result.now c.in_ok-versions_of.field-0 c.loop-member.versions.items c.push.new.self.items c.object-object.ensures.object c.in_ok-versions_of.ensures c.in_ok-push.ensures.items
    c.loop-member.invariant

pub returns : goal.returns
returns c =
    let os = objects c.args.scope.now in
    let all : length os ≤ c.loop-member.member = omega (arith, length_objects c.args.scope.now, c.count-member-end.ensures.count) in
    versions_done os c.loop-member.member c.loop-member.versions.items all c.loop-member.invariant
