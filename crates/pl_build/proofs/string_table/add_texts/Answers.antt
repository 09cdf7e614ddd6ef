use Rattle.pl_build.proofs.LoopLaws.{fold_more, fold_done}
use Rattle.pl_build.specs.StringTable.{text_added}
use Rattle.pl_build.proofs.string_table.add_texts.Goals as goal

pub loop-text-preserved : goal.loop-text-preserved
loop-text-preserved c = fold_more text_added _ _ _ _ c.text-item.result _ c.loop-text-test.true c.text-item.is (rw c.as_slice.ensures at c.in_ok-strings.ensures) c.loop-text.invariant

pub returns : goal.returns
returns c = fold_done text_added _ _ _ _ c.loop-text-test.false c.loop-text.invariant
