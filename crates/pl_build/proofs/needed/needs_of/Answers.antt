use Rattle.pl_build.proofs.LoopLaws.{fold_more, fold_done}
use Rattle.pl_build.specs.Needed.{need_added, needs_of}
use Rattle.pl_build.proofs.needed.needs_of.Goals as goal

pub loop-symbol-init : goal.loop-symbol-init
unfolding needs_of
loop-symbol-init c = rw c.new-needs.ensures

pub loop-symbol-preserved : goal.loop-symbol-preserved
loop-symbol-preserved c = fold_more need_added _ _ _ _ c.symbol-item.result _ c.loop-symbol-test.true c.symbol-item.is c.in_ok-add_need.ensures c.loop-symbol.invariant

pub returns : goal.returns
returns c = fold_done need_added _ _ _ _ c.loop-symbol-test.false c.loop-symbol.invariant
