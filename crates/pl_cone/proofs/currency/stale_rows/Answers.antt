use Rattle.std.proofs.Common.{◌≡◌, ℕ, ◌<◌, Bool, List, length, sym, ap, subst, ◌∙◌}
use Rattle.std.specs.List.{All}
use Rattle.std.proofs.lemmas.List.FromFn.{length-map-range_with_len}
use Rattle.pl_cone.specs.Currency.{held_at, held_rows, stale_at}
use Rattle.pl_cone.specs.Table.{walk_of}
use Rattle.pl_cone.proofs.NumberLaws.{column_more}
use Rattle.pl_cone.proofs.WalkLaws.{table_rows}
use Rattle.pl_cone.proofs.currency.stale_rows.Goals as goal

pub is_stale-requires : goal.is_stale-requires
is_stale-requires c =
    let walk : List ℕ = walk_of c.args.table.now c.loop-row.row in
    let size : length (held_rows c.args.table.now c.args.places.now) ≡ length c.args.table.now.files.now = length-map-range_with_len (held_at c.args.table.now c.args.places.now) 0 (length c.args.table.now.files.now) in
    let held : c.deref.result.now ≡ held_rows c.args.table.now c.args.places.now = c.deref.ensures.value ∙ c.in_ok-held.ensures in
    subst (λ (hs : List Bool). All (λ r. r < length hs) walk) (sym held)
    (subst (λ (count : ℕ). All (λ r. r < count) walk) (sym size) (table_rows c.requires.table.0 c.args.table.now c.loop-row.row c.requires.table.1).within)

pub loop-row-preserved : goal.loop-row-preserved
loop-row-preserved c =
    column_more (stale_at c.args.table.now c.in_ok-held.held.items) c.loop-row.row c.loop-row.stale _ _ c.in_ok-push.ensures.ok
    (c.is_stale.ensures ∙ ap (λ (hs : List Bool). stale_at c.args.table.now hs c.loop-row.row) c.deref.ensures.value) c.loop-row.invariant
