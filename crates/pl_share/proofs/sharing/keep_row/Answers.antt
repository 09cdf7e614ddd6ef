use Rattle.pl_share.proofs.StepLaws.{row_left, row_kept}
use Rattle.std.proofs.lemmas.Result.{on_ok_weaker}
use Rattle.pl_share.proofs.sharing.keep_row.Goals as goal

pub returns-then-not-is_clear-clause-kept : goal.returns-then-not-is_clear-clause-kept
returns-then-not-is_clear-clause-kept c =
    let is = rw (c.deref.ensures.value, c.as_slice.ensures) at c.is_clear.ensures in
    row_left c.args.asked.now.walks.now c.args.given.now c.args.position c.args.count c.in_ok-flags.flags.items c.args.row.now c.is_clear.result c.in_ok-flags.ensures c.requires.given.within is c.if-not-is_clear.true

pub returns-clause-kept : goal.returns-clause-kept
returns-clause-kept c =
    let is = rw (c.deref.ensures.value, c.as_slice.ensures) at c.is_clear.ensures in
    on_ok_weaker c.push.result
    (row_kept c.args.asked.now.walks.now c.args.given.now c.push.new.self c.args.position c.args.count c.in_ok-flags.flags.items c.args.row.now c.in_ok-slot.slot c.is_clear.result c.in_ok-flags.ensures c.requires.given.within is c.if-not-is_clear.false c.in_ok-slot.ensures)
    c.push.ensures.ok
