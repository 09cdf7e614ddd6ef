use Rattle.std.proofs.Common.{◌≤◌, length, arith, ap, ◌∙◌}
use Rattle.std.proofs.lemmas.Result.{err_from_is_err_and}
use Rattle.pl_base.specs.Answers.{because}
use Rattle.pl_base.specs.Each.{each}
use Rattle.pl_base.proofs.EachLaws.{front_nothing}
use Rattle.pl_scope.specs.Scope.{objects}
use Rattle.pl_scope.proofs.MemberLaws.{length_objects}
use Rattle.pl_value.specs.Meanings.{meaning, meanings, rows}
use Rattle.pl_value.specs.declared.fault.OrdinaryFault.TheVariants.{Link}
use Rattle.pl_value.proofs.CollectingLaws.{member_more, member_stops, members_done}
use Rattle.pl_value.proofs.LinkableLaws.{all_symbols}
use Rattle.pl_value.proofs.collecting.meanings.Goals as goal

pub add_each-requires-clause-references : goal.add_each-requires-clause-references
add_each-requires-clause-references c =
    let o = c.object-object.result.now in
    let same = c.in_ok-look_ahead.ensures ∙ c.loop-member.invariant.same in
    rw (c.as_slice-relocs.ensures, same) (all_symbols (objects c.args.scope.now) c.loop-member.member o c.object-object.ensures.fit c.object-object.ensures.object)

pub loop-member-init : goal.loop-member-init
loop-member-init c = record {
  so_far = rw (c.from_vec-meanings.ensures ∙ c.in_ok-with_capacity.ensures.items) (front_nothing (each (meaning (objects c.args.scope.now) c.args.places.now c.args.tls.now) (rows (objects c.args.scope.now))));
  same = c.in_ok-kept.ensures;
}

pub loop-member-preserved : goal.loop-member-preserved
loop-member-preserved c =
    let same = c.in_ok-look_ahead.ensures ∙ c.loop-member.invariant.same in
    let ok = rw (c.as_slice-relocs.ensures, same) at c.in_ok-add_each.ensures.ok in
    record {
      so_far = member_more (meaning (objects c.args.scope.now) c.args.places.now c.args.tls.now) (objects c.args.scope.now) c.loop-member.member c.object-object.result.now c.loop-member.meanings c.add_each.new.meanings _ c.object-object.ensures.object ok c.loop-member.invariant.so_far;
      same = c.in_ok-add_each.ensures.same ∙ same;
    }

pub returns-in_err-add_each : goal.returns-in_err-add_each
unfolding meanings
returns-in_err-add_each c =
    let p = err_from_is_err_and c.from_residual-in_err-add_each.result c.from_residual-in_err-add_each.ensures.1 in
    let same = c.in_ok-look_ahead.ensures ∙ c.loop-member.invariant.same in
    let stop = rw (c.as_slice-relocs.ensures, same) at c.in_err-add_each.ensures.err in
    rw (p.1, p.2) (member_stops (meaning (objects c.args.scope.now) c.args.places.now c.args.tls.now) (objects c.args.scope.now) c.loop-member.member c.object-object.result.now c.loop-member.meanings _ _ c.object-object.ensures.object stop c.loop-member.invariant.so_far)

pub returns : goal.returns
unfolding meanings
returns c =
    let last : length (objects c.args.scope.now) ≤ c.loop-member.member = omega (arith, length_objects c.args.scope.now) in
    ap (because Link) (members_done (meaning (objects c.args.scope.now) c.args.places.now c.args.tls.now) (objects c.args.scope.now) c.loop-member.member c.loop-member.meanings _ last c.loop-member.invariant.so_far)
