use Rattle.std.proofs.Common.{ap, ◌∙◌, length}
use Rattle.pl_form.proofs.WriteLaws.{length-segments}
use Rattle.pl_elf.specs.Written.{segment_bytes}
use Rattle.pl_form.proofs.LoopLaws.{bytes_more, bytes_done}
use Rattle.pl_form.proofs.bytes.segment_table.Goals as goal

pub loop-segment-preserved : goal.loop-segment-preserved
loop-segment-preserved c = bytes_more segment_bytes _ _ _ _ _ _ c.loop-segment-test.true c.in_ok-push_segment.ensures c.loop-segment.invariant

pub returns : goal.returns
returns c =
    let rows = bytes_done segment_bytes _ c.args.segments.now _ _ c.loop-segment-test.false c.loop-segment.invariant in
    record { rows = rows; size = ap length rows ∙ length-segments c.args.segments.now }
