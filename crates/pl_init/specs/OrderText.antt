-- The text of an order.
use Rattle.std.specs.Prelude.{ℕ, List, [], ◌∷◌, ◌++◌, codes, length, slice_index_or}
use Rattle.std.specs.List.{flat_map}
use Rattle.pl_base.specs.Digits.{line_text}
use Rattle.pl_scope.specs.Walk.{Walked}
use Rattle.pl_scope.specs.Members.{names}
use Rattle.pl_init.specs.declared.relation.ReachRow.{ReachRow}
use Rattle.pl_init.specs.Graph.{graph}
use Rattle.pl_init.specs.Found.{all_reached}
use Rattle.pl_init.specs.Lawful.{ordered}

-- the name of a member, by its number
abbrev pub name_at : List (List ℕ) → ℕ → List ℕ
name_at names m = slice_index_or names m []

-- a member, in its turn
unfoldable pub init_line : List (List ℕ) → ℕ → List ℕ
init_line names m = line_text (codes "init " ∷ name_at names m ∷ [])

-- a row: who reaches whom, and by whom it was found
unfoldable pub reach_line : List (List ℕ) → ReachRow → List ℕ
reach_line names r = line_text (codes "reach " ∷ name_at names r.from ∷ codes " " ∷ name_at names r.to ∷ codes " via " ∷ name_at names r.via ∷ [])

-- the members in their order, the rows, and the end
unfoldable pub order_text : List (List ℕ) → List ℕ → List ReachRow → List ℕ
order_text names order rows = flat_map (init_line names) order ++ flat_map (reach_line names) rows ++ line_text (codes "end" ∷ [])

-- ---- of a walk

-- who reaches whom
abbrev pub walk_rows : Walked → List ReachRow
walk_rows walked = all_reached (graph walked)

-- the order that is printed
abbrev pub printed : Walked → List ℕ
printed walked = ordered (walk_rows walked) (length walked) (length walked) []

unfoldable pub short_text : Walked → List ℕ
short_text walked = order_text (names walked) (printed walked) []

unfoldable pub full_text : Walked → List ℕ
full_text walked = order_text (names walked) (printed walked) (walk_rows walked)
