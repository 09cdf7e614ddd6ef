use Rattle.std.proofs.lemmas.Result.{err_from_is_err_and}
use Rattle.pl_slots.specs.Plan.{is_memory}
use Rattle.pl_share.proofs.StepLaws.{of_fault, planned_ok, planned_err}
use Rattle.pl_share.proofs.sharing.planned.Goals as goal

pub returns-in_err-given : goal.returns-in_err-given
returns-in_err-given c =
    let p = err_from_is_err_and c.from_residual-in_err-given.result c.from_residual-in_err-given.ensures.1 in
    rw (p.1, p.2)
    (of_fault (is_memory c.in_err-given.field-0.0)
    (planned_err c.args.asked.now.rows.now c.args.wants.now c.args.asked.now.walks.now c.args.asked.now.region c.in_ok-kept.kept c.in_err-given.field-0.0 c.in_ok-kept.ensures.kept)
    c.in_err-given.ensures)

pub returns : goal.returns
returns c =
    let slots = rw c.as_slice.ensures at c.in_ok-slots_of.ensures in
    planned_ok c.args.asked.now.rows.now c.args.wants.now c.args.asked.now.walks.now c.args.asked.now.region c.in_ok-kept.kept c.in_ok-given.given _ c.in_ok-kept.ensures.kept c.in_ok-given.ensures slots
