use Rattle.pl_journal.proofs.PlanLemmas.{row_length, steps_more}
use Rattle.pl_journal.proofs.planning.plan_rows.Goals as goal

pub plan_row-requires : goal.plan_row-requires
plan_row-requires c = row_length c.args.rows.now c.loop-number.number c.index-rows-number.result c.requires c.loop-number-test.true c.index-rows-number.is

pub loop-number-preserved : goal.loop-number-preserved
loop-number-preserved c v are =
    rw c.in_ok-push.ensures.ok (steps_more v c.args.rows.now c.loop-number.number c.index-rows-number.result c.loop-number.steps c.in_ok-step.step c.loop-number-test.true c.index-rows-number.is (c.loop-number.invariant v are) (c.in_ok-step.ensures v are))
