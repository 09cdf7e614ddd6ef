use Rattle.pl_build.proofs.LoopLaws.{fold_more, fold_done}
use Rattle.pl_build.specs.StringTable.{need_text_added, file_texts_added}
use Rattle.pl_build.proofs.string_table.add_file.Goals as goal

pub loop-need-init : goal.loop-need-init
unfolding file_texts_added
loop-need-init c = rw c.in_ok-strings.ensures

pub loop-need-preserved : goal.loop-need-preserved
loop-need-preserved c = fold_more (need_text_added c.args.file.now) _ _ _ _ c.need-item.result _ c.loop-need-test.true c.need-item.is c.in_ok-strings-2.ensures c.loop-need.invariant

pub returns : goal.returns
returns c = fold_done (need_text_added c.args.file.now) _ _ _ _ c.loop-need-test.false c.loop-need.invariant
