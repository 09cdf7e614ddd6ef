use Rattle.std.proofs.Common.{◌∙◌, sym}
use Rattle.pl_share.proofs.StepLaws.{slots_more}
use Rattle.pl_share.proofs.sharing.slots_of.Goals as goal

pub loop-position-preserved : goal.loop-position-preserved
loop-position-preserved c =
    let pushed = rw (c.slot_of.ensures, c.loop-position.invariant) at c.in_ok-push_slot.ensures in
    pushed ∙ sym (slots_more c.args.given.now c.loop-position.position)
