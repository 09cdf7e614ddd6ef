use Rattle.std.proofs.Common.{◌<◌, length, arith}
use Rattle.pl_build.specs.Checks.{writes}
use Rattle.pl_build.specs.NamedLines.{written_name}
use Rattle.pl_build.proofs.NamedLaws.{writes_is}
use Rattle.pl_build.proofs.TextLaws.{index_all, index_more, index_none, noted_as}
use Rattle.pl_build.proofs.checks.written_index.Goals as goal

pub loop-place-init : goal.loop-place-init
loop-place-init c = index_none writes c.args.lines.now c.new-index.result c.new-index.ensures

pub loop-place-preserved : goal.loop-place-preserved
loop-place-preserved c =
    let line = c.index-lines-place.result in
    let lt : c.loop-place.place < length c.args.lines.now = omega arith in
    index_more writes c.args.lines.now c.loop-place.index c.note.new.self c.loop-place.place line lt c.index-lines-place.is
    (noted_as writes c.loop-place.index c.note.new.self line (written_name line) c.loop-place.place (λ q. writes_is q line) (rw c.written_name.ensures at c.in_ok-note.ensures)) c.loop-place.invariant

pub returns : goal.returns
returns c = index_all writes c.args.lines.now c.loop-place.index c.loop-place.place (omega arith) c.loop-place.invariant
