use Rattle.std.proofs.Common.{◌<◌, length, ap, Some, arith}
use Rattle.pl_build.specs.StringTable.{has_text}
use Rattle.pl_build.proofs.TextLaws.{index_all, index_more, index_none, noted_as}
use Rattle.pl_build.proofs.indexed_plan.string_index.Goals as goal

pub loop-place-init : goal.loop-place-init
loop-place-init c = index_none has_text c.args.entries.now c.new-index.result c.new-index.ensures

pub loop-place-preserved : goal.loop-place-preserved
loop-place-preserved c =
    let lt : c.loop-place.place < length c.args.entries.now = omega arith in
    index_more has_text c.args.entries.now c.loop-place.index c.note.new.self c.loop-place.place c.index-entries-place.result lt c.index-entries-place.is
    (noted_as has_text c.loop-place.index c.note.new.self c.index-entries-place.result (Some c.as_slice.result.now) c.loop-place.place (λ q. rw c.as_slice.ensures (ap (has_text q) c.index-entries-place.is)) c.in_ok-note.ensures) c.loop-place.invariant

pub returns : goal.returns
returns c = index_all has_text c.args.entries.now c.loop-place.index c.loop-place.place (omega arith) c.loop-place.invariant
