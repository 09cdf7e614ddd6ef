use Rattle.std.proofs.Common.{◌∙◌}
use Rattle.pl_share.proofs.StepLaws.{placed_there, placed_in, holes_by_flags}
use Rattle.pl_share.proofs.sharing.place.Goals as goal

pub returns-then-has_slot-clause-ok : goal.returns-then-has_slot-clause-ok
returns-then-has_slot-clause-ok c =
    let there = rw c.as_slice.ensures at c.has_slot.ensures in
    placed_there c.args.asked.now.walks.now c.args.asked.now.region c.args.given.now c.args.position c.args.want.now c.has_slot.result there c.if-has_slot.true

pub returns-clause-ok : goal.returns-clause-ok
returns-clause-ok c =
    let there = rw c.as_slice.ensures at c.has_slot.ensures in
    let flagged = rw (c.deref.ensures.value, c.as_slice-2.ensures) at c.in_ok-holes.ensures in
    let eq = placed_in c.args.asked.now.walks.now c.args.asked.now.region c.args.given.now c.args.position c.args.want.now c.deref-2.result.now c.has_slot.result there c.if-has_slot.false
    (c.deref-2.ensures.value ∙ (flagged ∙ holes_by_flags c.args.asked.now.walks.now c.args.asked.now.region c.args.given.now c.args.position c.args.count c.in_ok-flags.flags.items c.in_ok-flags.ensures c.requires.given.within)) in
    rw (← eq) c.place_in.ensures.ok

pub returns-clause-err : goal.returns-clause-err
returns-clause-err c =
    let there = rw c.as_slice.ensures at c.has_slot.ensures in
    let flagged = rw (c.deref.ensures.value, c.as_slice-2.ensures) at c.in_ok-holes.ensures in
    let eq = placed_in c.args.asked.now.walks.now c.args.asked.now.region c.args.given.now c.args.position c.args.want.now c.deref-2.result.now c.has_slot.result there c.if-has_slot.false
    (c.deref-2.ensures.value ∙ (flagged ∙ holes_by_flags c.args.asked.now.walks.now c.args.asked.now.region c.args.given.now c.args.position c.args.count c.in_ok-flags.flags.items c.in_ok-flags.ensures c.requires.given.within)) in
    rw (← eq) c.place_in.ensures.err
