use Rattle.std.proofs.Common.{◌≤◌, length, sym, subst, arith}
use Rattle.pl_scope.specs.Numbers.{AreNumbersOf}
use Rattle.pl_scope.specs.Scope.{objects}
use Rattle.pl_scope.specs.declared.numbers.Numbers.{Numbers}
use Rattle.pl_scope.proofs.ScopeIndexLaws.{index_added, index_is, index_none}
use Rattle.pl_scope.proofs.MemberLaws.{length_objects}
use Rattle.pl_scope.proofs.scope_index.index_of.Goals as goal

pub loop-member-init : goal.loop-member-init
loop-member-init c =
    let os = objects c.args.scope.now in
    let index = c.of_none-index.result in
    record {
      named = subst (λ (numbers : Numbers). AreNumbersOf os numbers) (sym c.of_none-index.ensures.numbers) c.in_ok-numbers.ensures;
      so_far = index_none os index.numbers index.members.items index.own.items c.of_none-index.ensures.members c.of_none-index.ensures.own;
    }

pub loop-member-preserved : goal.loop-member-preserved
loop-member-preserved c =
    let os = objects c.args.scope.now in
    let added = c.in_ok-add_own.ensures in
    record {
      named = subst (λ (numbers : Numbers). AreNumbersOf os numbers) (sym added.numbers) c.loop-member.invariant.named;
      so_far = index_added os c.loop-member.member c.object-object.result.now c.loop-member.index c.add_own.new.index c.object-object.ensures.object added c.loop-member.invariant.so_far;
    }

pub returns : goal.returns
returns c =
    let os = objects c.args.scope.now in
    let index = c.loop-member.index in
    let all : length os ≤ c.loop-member.member = omega (arith, length_objects c.args.scope.now, c.count-member-end.ensures.count) in
    index_is os index.numbers c.loop-member.member index.members c.sort_entries.new.entries index.own all c.loop-member.invariant.named c.loop-member.invariant.so_far c.sort_entries.ensures.same c.sort_entries.ensures.rising
