use Rattle.pl_build.proofs.LoopLaws.{flat_map_more, flat_map_done}
use Rattle.pl_build.proofs.fields.push_rows.Goals as goal

pub loop-row-preserved : goal.loop-row-preserved
loop-row-preserved g c = flat_map_more g.R.Row.bytes _ _ _ _ c.row-item.result _ c.loop-row-test.true c.row-item.is c.in_ok-push_to.ensures c.loop-row.invariant

pub returns : goal.returns
returns g c = flat_map_done g.R.Row.bytes _ _ _ _ c.loop-row-test.false c.loop-row.invariant
