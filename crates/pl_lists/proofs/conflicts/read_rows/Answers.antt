use Rattle.std.proofs.Common.{◌/◌, length}
use Rattle.std.proofs.lemmas.Result.{err_from_is_err_and}
use Rattle.pl_base.proofs.EachLaws.{rows_begin, rows_more, rows_fail, rows_done}
use Rattle.pl_lists.specs.Reading as spec
use Rattle.pl_lists.specs.declared.constants.TheConstants.{CONFLICT_SIZE}
use Rattle.pl_lists.proofs.conflicts.read_rows.Goals as goal

pub loop-index-init : goal.loop-index-init
loop-index-init c = rw c.new-rows.ensures (rows_begin (spec.conflict_at c.args.table.now) (length c.args.table.now / CONFLICT_SIZE))

pub returns-in_err-conflict_at : goal.returns-in_err-conflict_at
returns-in_err-conflict_at c =
    let p = err_from_is_err_and c.from_residual.result c.from_residual.ensures.1 in
    rw (p.1, p.2) (rows_fail spec.is_memory (spec.conflict_at c.args.table.now) _ _ _ _ _ c.loop-index-test.true c.in_err-conflict_at.ensures c.loop-index.invariant)

pub loop-index-preserved : goal.loop-index-preserved
loop-index-preserved c =
    rw c.in_ok-push.ensures.ok (rows_more (spec.conflict_at c.args.table.now) _ _ _ _ _ c.loop-index-test.true c.in_ok-conflict_at.ensures c.loop-index.invariant)

pub returns : goal.returns
returns c = rows_done (spec.conflict_at c.args.table.now) _ _ _ _ c.loop-index-test.false c.loop-index.invariant
