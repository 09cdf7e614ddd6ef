use Rattle.std.proofs.Common.{◌<◌, length, refl, Some, arith}
use Rattle.pl_build.specs.IndexedPlan.{is_version}
use Rattle.pl_build.proofs.TextLaws.{index_all, index_more, index_none, noted_as}
use Rattle.pl_build.proofs.indexed_plan.version_index.Goals as goal

pub loop-place-init : goal.loop-place-init
loop-place-init c = index_none is_version c.args.versions.now c.new-index.result c.new-index.ensures

pub loop-place-preserved : goal.loop-place-preserved
loop-place-preserved c =
    let lt : c.loop-place.place < length c.args.versions.now = omega arith in
    index_more is_version c.args.versions.now c.loop-place.index c.note.new.self c.loop-place.place c.index-versions-place.result lt c.index-versions-place.is
    (noted_as is_version c.loop-place.index c.note.new.self c.index-versions-place.result (Some c.as_slice.result.now) c.loop-place.place (λ q. rw c.as_slice.ensures refl) c.in_ok-note.ensures) c.loop-place.invariant

pub returns : goal.returns
returns c = index_all is_version c.args.versions.now c.loop-place.index c.loop-place.place (omega arith) c.loop-place.invariant
