use Rattle.std.proofs.Common.{◌<◌, ◌≤◌, length, arith}
use Rattle.pl_scope.specs.Scope.{objects}
use Rattle.pl_scope.proofs.MemberLaws.{length_objects}
use Rattle.pl_scope.proofs.ShortIndexLaws.{under_asked, under_passed}
use Rattle.pl_scope.proofs.lookup.best_under.Goals as goal

pub best_of_under-requires-clause-within : goal.best_of_under-requires-clause-within
best_of_under-requires-clause-within c = omega (arith, c.count-count.ensures.count, c.if-member-count.true)

pub returns-then-member-count : goal.returns-then-member-count
returns-then-member-count c =
    let os = objects c.args.scope.now in
    let lt : c.member_of-member.result < length os = omega (arith, length_objects c.args.scope.now, c.count-count.ensures.count, c.if-member-count.true) in
    under_asked os c.args.wanted.now c.args.start c.args.best c.best_of_under.result c.args.entry.now c.member_of-member.result c.member_of-member.ensures lt c.best_of_under.ensures

pub returns-else-member-count : goal.returns-else-member-count
returns-else-member-count c =
    let os = objects c.args.scope.now in
    let le : length os ≤ c.member_of-member.result = omega (arith, length_objects c.args.scope.now, c.count-count.ensures.count, c.if-member-count.false) in
    under_passed os c.args.wanted.now c.args.start c.args.best c.args.entry.now c.member_of-member.result c.member_of-member.ensures le
