use Rattle.std.proofs.Common.{length, sym, ap, ◌∙◌}
use Rattle.pl_lists.specs.declared.list_row.ListRow.{ListRow}
use Rattle.pl_form.proofs.NameLaws.{count_first, count_next, count_done, count_long}
use Rattle.pl_form.proofs.program_form.has_long_names.Goals as goal

pub loop-row-init : goal.loop-row-init
loop-row-init c = count_first c.args.list.now

pub returns-then-size-room : goal.returns-then-size-room
returns-then-size-room c =
    sym (count_long c.args.list.now c.loop-row.row-index c.loop-row.room (length c.as_str-size.result.now) c.row-item.result c.loop-row-test.true c.loop-row.invariant
    (ap length c.as_str-size.ensures ∙ ap (λ (r : ListRow). length r.name) c.row-item.is) c.if-size-room.true)

pub loop-row-preserved : goal.loop-row-preserved
loop-row-preserved c =
    count_next c.args.list.now c.loop-row.row-index c.loop-row.room (length c.as_str-size.result.now) c.row-item.result c.loop-row-test.true c.loop-row.invariant
    (ap length c.as_str-size.ensures ∙ ap (λ (r : ListRow). length r.name) c.row-item.is) c.if-size-room.false

pub returns : goal.returns
returns c = count_done c.args.list.now _ _ c.loop-row-test.false c.loop-row.invariant
