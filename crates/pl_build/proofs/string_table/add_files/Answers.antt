use Rattle.pl_build.proofs.LoopLaws.{fold_more, fold_done}
use Rattle.pl_build.specs.StringTable.{file_texts_added}
use Rattle.pl_build.proofs.string_table.add_files.Goals as goal

pub loop-file-preserved : goal.loop-file-preserved
loop-file-preserved c = fold_more (file_texts_added c.args.needs.now) _ _ _ _ c.file-item.result _ c.loop-file-test.true c.file-item.is (rw c.as_slice.ensures at c.in_ok-strings.ensures) c.loop-file.invariant

pub returns : goal.returns
returns c = fold_done (file_texts_added c.args.needs.now) _ _ _ _ c.loop-file-test.false c.loop-file.invariant
