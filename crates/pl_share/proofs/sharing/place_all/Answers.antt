use Rattle.std.proofs.Common.{◌∙◌, sym, ap, arith}
use Rattle.std.proofs.lemmas.Result.{err_from_is_err_and}
use Rattle.pl_slots.specs.Plan.{is_memory}
use Rattle.pl_share.specs.Shared.{placed}
use Rattle.pl_share.proofs.StepLaws.{of_fault, placed_more, placed_fails, placed_all}
use Rattle.pl_share.proofs.sharing.place_all.Goals as goal

pub returns-in_err-place : goal.returns-in_err-place
returns-in_err-place c =
    let p = err_from_is_err_and c.from_residual.result c.from_residual.ensures.1 in
    rw (p.1, p.2)
    (of_fault (is_memory c.in_err-place.field-0.0)
    (placed_fails c.args.asked.now.walks.now c.args.asked.now.region c.loop-position.given c.args.wants.now c.loop-position.position c.index-wants-position.result c.in_err-place.field-0.0 _ c.loop-position-test.true c.index-wants-position.is c.loop-position.invariant.so_far)
    c.in_err-place.ensures.err)

pub loop-position-preserved : goal.loop-position-preserved
loop-position-preserved c = record {
  so_far = placed_more c.args.asked.now.walks.now c.args.asked.now.region c.loop-position.given c.place.new.given c.args.wants.now c.loop-position.position c.index-wants-position.result _ c.loop-position-test.true
      (ap (placed c.args.asked.now.walks.now c.args.asked.now.region c.loop-position.given c.loop-position.position) (sym c.index-wants-position.is) ∙ c.in_ok-place.ensures.ok) c.loop-position.invariant.so_far;
  given = c.in_ok-place.ensures.given;
}

pub returns : goal.returns
returns c = placed_all c.args.asked.now.walks.now c.args.asked.now.region c.loop-position.given c.args.wants.now c.loop-position.position _ (omega arith) c.loop-position.invariant.so_far
