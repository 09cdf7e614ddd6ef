use Rattle.pl_build.specs.Symbols.{is_in}
use Rattle.pl_build.proofs.LoopLaws.{kept_more, filter_done}
use Rattle.pl_build.proofs.symbols.add_bucket.Goals as goal

pub loop-symbol-preserved : goal.loop-symbol-preserved
loop-symbol-preserved c = kept_more (is_in c.args.settings.now c.args.number) _ _ _ _ c.symbol-item.result _ c.loop-symbol-test.true c.symbol-item.is c.in_ok-keep_in.ensures c.loop-symbol.invariant

pub returns : goal.returns
returns c = filter_done (is_in c.args.settings.now c.args.number) _ _ _ _ c.loop-symbol-test.false c.loop-symbol.invariant
