use Rattle.std.proofs.Common.{ap, Result, [], Ok}
use Rattle.std.proofs.lemmas.Result.{err_from_is_err_and}
use Rattle.pl_base.specs.Each.{run}
use Rattle.pl_base.specs.Answers.{◌>>=◌}
use Rattle.pl_base.proofs.RunLaws.{run_more, run_fails, run_done}
use Rattle.pl_slots.specs.declared.partial_plan.PartialPlan.{PartialPlan}
use Rattle.pl_slots.specs.declared.fault.PlanFault.{PlanFault}
use Rattle.pl_slots.specs.Plan.{plan, next, kept_holes, is_memory}
use Rattle.pl_slots.proofs.PlanLaws.{then_fails}
use Rattle.pl_slots.proofs.planning.all_placed.Goals as goal

pub returns-in_err-planned : goal.returns-in_err-planned
unfolding plan
returns-in_err-planned c =
    let p = err_from_is_err_and c.from_residual-in_err-planned.result c.from_residual-in_err-planned.ensures.1 in
    let f = next c.args.kept.now c.args.region in
    rw (p.1, p.2)
    (then_fails (is_memory c.in_err-planned.field-0.0) (run f (record { rows = []; holes = kept_holes c.args.kept.now c.args.region c.args.wants.now }) c.args.wants.now) (λ planned. Ok planned.rows) c.in_err-planned.field-0.0
    (run_fails is_memory f c.loop-want.planned c.args.wants.now c.loop-want.want-index c.want-item.result c.in_err-planned.field-0.0 _ c.loop-want-test.true c.want-item.is c.in_err-planned.ensures c.loop-want.invariant))

pub loop-want-preserved : goal.loop-want-preserved
loop-want-preserved c =
    run_more (next c.args.kept.now c.args.region) c.loop-want.planned c.in_ok-planned.planned c.args.wants.now c.loop-want.want-index c.want-item.result _ c.loop-want-test.true c.want-item.is c.in_ok-planned.ensures c.loop-want.invariant

pub returns : goal.returns
unfolding plan
returns c =
    ap (λ (r : Result PartialPlan PlanFault). r >>= λ planned. Ok planned.rows) (run_done (next c.args.kept.now c.args.region) c.loop-want.planned c.args.wants.now c.loop-want.want-index _ c.loop-want-test.false c.loop-want.invariant)
