use Rattle.pl_journal.proofs.PlanLemmas.{change_length, edits_more}
use Rattle.pl_journal.proofs.planning.plan_changes.Goals as goal

pub plan_change-requires : goal.plan_change-requires
plan_change-requires c = change_length c.args.changes.now c.loop-number.number c.index-changes-number.result c.requires c.loop-number-test.true c.index-changes-number.is

pub loop-number-preserved : goal.loop-number-preserved
loop-number-preserved c =
    rw c.in_ok-push.ensures.ok (edits_more c.args.changes.now c.loop-number.number c.index-changes-number.result c.loop-number.steps c.in_ok-step.step c.loop-number-test.true c.index-changes-number.is c.loop-number.invariant c.in_ok-step.ensures)
