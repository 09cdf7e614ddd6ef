use Rattle.std.proofs.Common.{◌≡◌, ℕ, ◌<◌, List, Option, length, sym, ap, subst, ◌∙◌}
use Rattle.std.specs.List.{All}
use Rattle.std.proofs.lemmas.List.FromFn.{length-map-range_with_len}
use Rattle.pl_cone.specs.Slots.{position_at, positions, positions_in}
use Rattle.pl_cone.specs.Table.{is_candidate_row, walk_of}
use Rattle.pl_cone.proofs.NumberLaws.{kept_less, kept_more}
use Rattle.pl_cone.proofs.WalkLaws.{table_rows}
use Rattle.pl_cone.proofs.planning.table_walks.Goals.{then-is_candidate+in_ok-wanted_in+in_ok-push, else-is_candidate}
use Rattle.pl_cone.proofs.planning.table_walks.Goals as goal

pub wanted_in-requires : goal.wanted_in-requires
wanted_in-requires c =
    let walk : List ℕ = walk_of c.args.table.now c.loop-row.row in
    let size : length (positions c.args.table.now) ≡ length c.args.table.now.files.now = length-map-range_with_len (position_at c.args.table.now) 0 (length c.args.table.now.files.now) in
    let told : c.deref.result.now ≡ positions c.args.table.now = c.deref.ensures.value ∙ c.requires.wanting.positions in
    subst (λ (ps : List (Option ℕ)). All (λ r. r < length ps) c.walk.result.now) (sym told)
    (subst (λ (rows : List ℕ). All (λ r. r < length (positions c.args.table.now)) rows) (sym c.walk.ensures)
    (subst (λ (count : ℕ). All (λ r. r < count) walk) (sym size) (table_rows c.requires.table.0 c.args.table.now c.loop-row.row c.requires.table.1).within))

pub loop-row-preserved : goal.loop-row-preserved
loop-row-preserved c = elim c.if-is_candidate.branch [
  | then-is_candidate+in_ok-wanted_in+in_ok-push w ↦
      let g : ℕ → List ℕ = λ row. positions_in (positions c.args.table.now) (walk_of c.args.table.now row) in
      let one = w.in_ok-wanted_in.ensures ∙ (ap (λ (ps : List (Option ℕ)). positions_in ps w.walk.result.now) (w.deref.ensures.value ∙ c.requires.wanting.positions) ∙ ap (positions_in (positions c.args.table.now)) w.walk.ensures) in
      rw w.rows-is (kept_more (is_candidate_row c.args.table.now) g c.loop-row.row c.loop-row.rows _ _ (sym c.is_candidate.ensures ∙ w.if-is_candidate.true) w.in_ok-push.ensures.ok one c.loop-row.invariant)
  | else-is_candidate w ↦
      let g : ℕ → List ℕ = λ row. positions_in (positions c.args.table.now) (walk_of c.args.table.now row) in
      rw w.rows-is (kept_less (is_candidate_row c.args.table.now) g c.loop-row.row c.loop-row.rows (sym c.is_candidate.ensures ∙ w.if-is_candidate.false) c.loop-row.invariant)
]
