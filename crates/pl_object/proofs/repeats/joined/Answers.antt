use Rattle.std.proofs.Common.{◌∙◌}
use Rattle.pl_object.proofs.KeyLaws.{joined_more, joined_done}
use Rattle.pl_object.proofs.repeats.joined.Goals as goal

pub loop-byte-preserved : goal.loop-byte-preserved
loop-byte-preserved c =
    rw (c.in_ok-push-2.ensures.items, c.in_ok-push.ensures.items) (joined_more c.args.version.now c.args.name.now c.loop-byte.key.items _ c.loop-byte.byte-index c.loop-byte-test.true c.loop-byte.invariant)

pub returns : goal.returns
returns c =
    c.from_vec.ensures ∙ rw (c.in_ok-extend_from_slice.ensures.items, c.in_ok-push-3.ensures.items)
    (joined_done c.args.version.now c.args.name.now c.loop-byte.key.items _ c.loop-byte.byte-index c.loop-byte-test.false c.loop-byte.invariant)
