use Rattle.std.proofs.lemmas.List.{get_or_default}
use Rattle.std.proofs.lemmas.Result.{err_from_is_err_and}
use Rattle.pl_base.proofs.RunLaws.{run_more, run_done}
use Rattle.pl_build.proofs.LoopLaws.{run_tells}
use Rattle.pl_build.specs.Build.{told}
use Rattle.pl_build.specs.Layout.{role_added}
use Rattle.pl_build.proofs.layout.add_roles.Goals as goal

pub returns-in_err-tables-clause-answer : goal.returns-in_err-tables-clause-answer
returns-in_err-tables-clause-answer c =
    let p = err_from_is_err_and c.from_residual.result c.from_residual.ensures.1 in
    rw (p.1, p.2) (run_tells told (role_added c.args.plan.now) _ _ _ _ _ _ c.loop-role-test.true (get_or_default c.args.roles.now c.loop-role.role-index _ _ c.loop-role-test.true) c.in_err-tables.ensures.answer c.loop-role.invariant.so_far)

pub loop-role-preserved : goal.loop-role-preserved
loop-role-preserved c = record {
  so_far = run_more (role_added c.args.plan.now) _ _ _ _ _ _ c.loop-role-test.true (get_or_default c.args.roles.now c.loop-role.role-index _ _ c.loop-role-test.true) c.in_ok-tables.ensures.answer c.loop-role.invariant.so_far;
  small = c.in_ok-tables.ensures.small;
}

pub returns-clause-answer : goal.returns-clause-answer
returns-clause-answer c = run_done (role_added c.args.plan.now) _ _ _ _ c.loop-role-test.false c.loop-role.invariant.so_far
