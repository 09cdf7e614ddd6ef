use Rattle.std.proofs.Common.{◌≤◌, length, arith}
use Rattle.pl_scope.specs.Scope.{objects}
use Rattle.pl_scope.proofs.MemberLaws.{length_objects}
use Rattle.pl_scope.proofs.NumberLaws.{all_done, all_hashed, all_more, all_none}
use Rattle.pl_scope.proofs.numbers.numbers_of.Goals as goal

pub returns-then-not-branch : goal.returns-then-not-branch
returns-then-not-branch c = all_hashed (objects c.args.scope.now)

pub loop-member-init : goal.loop-member-init
loop-member-init c = all_none (objects c.args.scope.now) c.new-numbers.result

pub loop-member-preserved : goal.loop-member-preserved
loop-member-preserved c =
    all_more (objects c.args.scope.now) c.loop-member.member c.object-object.result.now c.loop-member.numbers c.add_definers.new.numbers c.add_versions.new.numbers c.object-object.ensures.object c.in_ok-add_definers.ensures c.in_ok-add_versions.ensures c.loop-member.invariant

pub returns : goal.returns
returns c =
    let all : length (objects c.args.scope.now) ≤ c.loop-member.member = omega (arith, length_objects c.args.scope.now, c.count-member-end.ensures.count) in
    all_done (objects c.args.scope.now) c.loop-member.member c.loop-member.numbers all c.loop-member.invariant
