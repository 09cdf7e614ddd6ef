use Rattle.pl_build.proofs.LoopLaws.{fold_more, fold_done}
use Rattle.pl_build.specs.Needed.{file_added, files_of}
use Rattle.pl_build.proofs.needed.files_of.Goals as goal

pub loop-need-init : goal.loop-need-init
unfolding files_of
loop-need-init c = rw c.new-files.ensures

pub loop-need-preserved : goal.loop-need-preserved
loop-need-preserved c = fold_more file_added _ _ _ _ c.need-item.result _ c.loop-need-test.true c.need-item.is c.in_ok-add_file.ensures c.loop-need.invariant

pub returns : goal.returns
returns c = fold_done file_added _ _ _ _ c.loop-need-test.false c.loop-need.invariant
