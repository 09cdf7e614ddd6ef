use Rattle.std.proofs.Math.ListN.{drop_of_length-le}
use Rattle.std.proofs.Common.{List, ◌+◌, ap, arith, sym}
use Rattle.std.specs.Prelude.{length, sum_by}
use Rattle.pl_change.specs.declared.room.TheConstants.{FOLDER}
use Rattle.pl_change.proofs.CopiedLemmas.{over, within}
use Rattle.pl_change.proofs.CopyLemmas.{File}
use Rattle.pl_change.proofs.copying.are_bulky.Goals as goal

pub returns-then-len-left : goal.returns-then-len-left
returns-then-len-left c =
    sym (over c.loop-file.left c.args.files.now c.loop-file.file-index c.file-item.result c.loop-file-test.true c.file-item.is c.loop-file.invariant.0 (omega (arith, c.if-len-left.true, c.len.ensures)))

pub returns : goal.returns
returns c =
    let files = c.args.files.now in
    let none = ap (λ (left : List File). FOLDER + sum_by (λ (file : File). length file.1.items) left) (drop_of_length-le files {i = c.loop-file.file-index} c.loop-file-test.false) in
    sym (within c.loop-file.left files (omega (arith, c.loop-file.invariant.0, none)))
