use Rattle.std.proofs.Common.{◌≤◌, length, arith}
use Rattle.pl_scope.specs.Scope.{objects}
use Rattle.pl_scope.proofs.MemberLaws.{length_objects}
use Rattle.pl_scope.proofs.ShortIndexLaws.{have_done, have_more, have_none}
use Rattle.pl_scope.proofs.short_index.all_definers.Goals as goal

pub loop-member-init : goal.loop-member-init
loop-member-init c = have_none (objects c.args.scope.now) c.new-entries.result.items

pub loop-member-preserved : goal.loop-member-preserved
loop-member-preserved c =
    have_more (objects c.args.scope.now) c.loop-member.member c.object-object.result.now c.loop-member.entries.items c.add_symbols.new.entries.items c.object-object.ensures.object c.in_ok-add_symbols.ensures c.loop-member.invariant

pub returns : goal.returns
returns c =
    let os = objects c.args.scope.now in
    let all : length os ≤ c.loop-member.member = omega (arith, length_objects c.args.scope.now, c.count-member-end.ensures.count) in
    have_done os c.loop-member.member c.loop-member.entries.items all c.loop-member.invariant
