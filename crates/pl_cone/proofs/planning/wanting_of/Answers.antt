use Rattle.std.proofs.Common.{List, Option, length, ap, ◌∙◌}
use Rattle.pl_slots.specs.declared.slot.Want.{Want}
use Rattle.pl_cone.specs.Slots.{is_there, position_at, position_if, want_at}
use Rattle.pl_cone.proofs.NumberLaws.{column_more, given_column}
use Rattle.pl_cone.proofs.planning.wanting_of.Goals as goal

pub loop-row-preserved : goal.loop-row-preserved
loop-row-preserved c = record {
  wants = given_column (want_at c.args.table.now) c.loop-row.row c.loop-row.wanting.wants _ _ c.in_ok-add_want.ensures.0 c.in_ok-want.ensures c.loop-row.invariant.wants;
  positions = column_more (position_at c.args.table.now) c.loop-row.row c.loop-row.wanting.positions.items _ _ c.in_ok-add_want.ensures.1
      (ap (λ (w : Option Want). position_if (is_there w) (length c.loop-row.wanting.wants)) c.in_ok-want.ensures ∙ ap (λ (ws : List Want). position_if (is_there (want_at c.args.table.now c.loop-row.row)) (length ws)) c.loop-row.invariant.wants) c.loop-row.invariant.positions;
}
