use Rattle.std.proofs.Common.{ℕ, List, ap, ◌∙◌}
use Rattle.std.specs.Prelude.{slice_index}
use Rattle.pl_cone.specs.Currency.{held_at, is_held}
use Rattle.pl_cone.proofs.NumberLaws.{column_more}
use Rattle.pl_cone.proofs.WalkLaws.{table_rows}
use Rattle.pl_cone.proofs.currency.held_rows.Goals as goal

pub is_held-requires : goal.is_held-requires
is_held-requires c = rw c.walk.ensures (table_rows c.requires.table.0 c.args.table.now c.loop-row.row c.requires.table.1)

pub loop-row-preserved : goal.loop-row-preserved
loop-row-preserved c =
    column_more (held_at c.args.table.now c.args.places.now) c.loop-row.row c.loop-row.held.items _ _ c.in_ok-push.ensures.items
    (c.is_held.ensures ∙ ap (λ (w : List ℕ). is_held c.args.table.now.files.now w (slice_index c.args.places.now c.loop-row.row)) c.walk.ensures) c.loop-row.invariant
