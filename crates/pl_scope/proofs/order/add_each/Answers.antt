use Rattle.std.proofs.Common.{◌≡◌, ℕ, ◌≤◌, List, length, take, min, sym, ap, ◌∙◌, arith}
use Rattle.std.proofs.lemmas.List.{take-take, length-take}
use Rattle.std.proofs.lemmas.Result.{err_from_is_err_and}
use Rattle.pl_base.proofs.RunLaws.{run_more, run_fails, run_done}
use Rattle.pl_scope.specs.Walk.{added, is_memory}
use Rattle.pl_scope.proofs.StepLaws.{added_front, added_few}
use Rattle.pl_scope.proofs.order.add_each.Goals as goal

-- what stood in front of a list in front of a list stands in front of it
front_kept : (first before after : List (List ℕ)) → take (length first) before ≡ first → take (length before) after ≡ before → take (length first) after ≡ first
front_kept first before after h k =
    let one : length (take (length first) before) ≡ length first = ap length h in
    let two : length (take (length first) before) ≡ min (length first) (length before) = length-take (length first) before in
    let le : length first ≤ length before = omega arith in
    sym (take-take (length first) (length before) after le) ∙ ap (take (length first)) k ∙ h

pub returns-in_err-add-clause-err : goal.returns-in_err-add-clause-err
returns-in_err-add-clause-err c =
    let p = err_from_is_err_and c.from_residual.result c.from_residual.ensures.1 in
    rw (p.1, p.2) (run_fails is_memory added _ _ _ c.name-item.result _ _ c.loop-name-test.true c.name-item.is c.in_err-add.ensures.err c.loop-name.invariant.so_far)

pub returns-in_err-add-clause-front : goal.returns-in_err-add-clause-front
returns-in_err-add-clause-front c = rw c.in_err-add.ensures.unchanged c.loop-name.invariant.front

pub returns-in_err-add-clause-few : goal.returns-in_err-add-clause-few
returns-in_err-add-clause-few c = λ le. rw c.in_err-add.ensures.unchanged (c.loop-name.invariant.few le)

pub loop-name-preserved : goal.loop-name-preserved
loop-name-preserved c = record {
  so_far = run_more added _ _ _ _ c.name-item.result _ c.loop-name-test.true c.name-item.is c.in_ok-add.ensures.ok c.loop-name.invariant.so_far;
  front = front_kept _ _ _ c.loop-name.invariant.front (added_front _ _ _ c.in_ok-add.ensures.ok);
  few = λ le. added_few _ _ _ c.in_ok-add.ensures.ok (c.loop-name.invariant.few le);
}

pub returns-clause-ok : goal.returns-clause-ok
returns-clause-ok c = run_done added _ _ _ _ c.loop-name-test.false c.loop-name.invariant.so_far
