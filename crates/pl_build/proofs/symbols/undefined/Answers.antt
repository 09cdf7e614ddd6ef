use Rattle.pl_build.specs.Symbols.{is_undefined}
use Rattle.pl_build.proofs.LoopLaws.{kept_more, filter_done}
use Rattle.pl_build.proofs.symbols.undefined.Goals as goal

pub loop-symbol-init : goal.loop-symbol-init
loop-symbol-init c = rw c.new-to.ensures

pub loop-symbol-preserved : goal.loop-symbol-preserved
loop-symbol-preserved c = kept_more is_undefined _ _ _ _ c.symbol-item.result _ c.loop-symbol-test.true c.symbol-item.is c.in_ok-keep_undefined.ensures c.loop-symbol.invariant

pub returns : goal.returns
returns c = filter_done is_undefined _ _ _ _ c.loop-symbol-test.false c.loop-symbol.invariant
