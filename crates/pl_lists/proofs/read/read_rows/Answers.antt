use Rattle.std.proofs.Common.{◌/◌, length}
use Rattle.std.proofs.lemmas.Result.{err_from_is_err_and}
use Rattle.pl_base.proofs.EachLaws.{rows_begin, rows_more, rows_fail, rows_done}
use Rattle.pl_lists.specs.Reading as spec
use Rattle.pl_lists.specs.declared.constants.TheConstants.{LIST_ROW_SIZE}
use Rattle.pl_lists.proofs.read.read_rows.Goals as goal

pub loop-index-init : goal.loop-index-init
loop-index-init c = rw c.new-rows.ensures (rows_begin (spec.row_at c.args.table.now c.args.strings.now) (length c.args.table.now / LIST_ROW_SIZE))

pub returns-in_err-row_at : goal.returns-in_err-row_at
returns-in_err-row_at c =
    let p = err_from_is_err_and c.from_residual.result c.from_residual.ensures.1 in
    rw (p.1, p.2) (rows_fail spec.is_memory (spec.row_at c.args.table.now c.args.strings.now) _ _ _ _ _ c.loop-index-test.true c.in_err-row_at.ensures c.loop-index.invariant)

pub loop-index-preserved : goal.loop-index-preserved
loop-index-preserved c =
    rw c.in_ok-push.ensures.ok (rows_more (spec.row_at c.args.table.now c.args.strings.now) _ _ _ _ _ c.loop-index-test.true c.in_ok-row_at.ensures c.loop-index.invariant)

pub returns : goal.returns
returns c = rows_done (spec.row_at c.args.table.now c.args.strings.now) _ _ _ _ c.loop-index-test.false c.loop-index.invariant
