use Rattle.std.proofs.Common.{◌<◌, length, arith}
use Rattle.pl_build.proofs.PackedIndexLaws.{places_all, places_more, places_none}
use Rattle.pl_build.proofs.checks.packed_index.Goals as goal

pub loop-place-init : goal.loop-place-init
loop-place-init c = places_none c.args.lines.now c.new-index.result c.new-index.ensures

pub loop-place-preserved : goal.loop-place-preserved
loop-place-preserved c =
    let lt : c.loop-place.place < length c.args.lines.now = omega arith in
    places_more c.args.lines.now c.loop-place.index c.note.new.self c.loop-place.place c.index-lines-place.result lt c.index-lines-place.is (rw c.packed_offset.ensures at c.in_ok-note.ensures) c.loop-place.invariant

pub returns : goal.returns
returns c = places_all c.args.lines.now c.loop-place.index c.loop-place.place (omega arith) c.loop-place.invariant
