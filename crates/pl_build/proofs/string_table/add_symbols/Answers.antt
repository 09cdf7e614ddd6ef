use Rattle.pl_build.proofs.LoopLaws.{fold_more, fold_done}
use Rattle.pl_build.specs.StringTable.{symbol_added}
use Rattle.pl_build.proofs.string_table.add_symbols.Goals as goal

pub loop-symbol-preserved : goal.loop-symbol-preserved
loop-symbol-preserved c = fold_more symbol_added _ _ _ _ c.symbol-item.result _ c.loop-symbol-test.true c.symbol-item.is (rw c.as_slice.ensures at c.in_ok-strings.ensures) c.loop-symbol.invariant

pub returns : goal.returns
returns c = fold_done symbol_added _ _ _ _ c.loop-symbol-test.false c.loop-symbol.invariant
