use Rattle.std.proofs.Common.{arith}
use Rattle.pl_lists.proofs.ConflictLaws.{ascend_more, ascend_stops, ascend_ends}
use Rattle.pl_lists.proofs.conflicts.ascend.Goals as goal

pub returns-then-rows-index : goal.returns-then-rows-index
returns-then-rows-index c = ascend_stops _ _ _ (omega (arith, c.loop-index.auto.index)) c.loop-index-test.true c.if-rows-index.true c.loop-index.invariant

pub loop-index-preserved : goal.loop-index-preserved
loop-index-preserved c = ascend_more _ _ _ (omega (arith, c.loop-index.auto.index)) c.loop-index-test.true c.if-rows-index.false c.loop-index.invariant

pub returns : goal.returns
returns c = ascend_ends _ _ (omega (arith, c.loop-index.auto.index)) c.loop-index-test.false c.loop-index.invariant
