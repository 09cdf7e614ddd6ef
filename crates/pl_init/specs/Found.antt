-- The members that a member reaches, in breadth-first order, each with the member by which it was found.
use Rattle.std.specs.Prelude.{ℕ, zero, suc, ◌+◌, Bool, ◌||◌, ◌==◌, List, [], ◌∷◌, ◌++◌, length, fold, Option, Some, None, slice_get, if◌then◌else◌}
use Rattle.std.specs.List.{list_any, flat_map, range_with_len}
use Rattle.pl_init.specs.declared.relation.ReachRow.{ReachRow}
use Rattle.pl_init.specs.Graph.{needs}

abbrev pub row : ℕ → ℕ → ℕ → ReachRow
row from to via = record { from = from; to = to; via = via }

-- a member is one to which a row leads
abbrev pub among : List ReachRow → ℕ → Bool
among rows m = list_any (λ r. r.to == m) rows

-- the member itself, or one to which its rows lead
abbrev pub is_seen : ℕ → List ReachRow → ℕ → Bool
is_seen from rows m = m == from || among rows m

-- a needed member at the end, where it is new
unfoldable pub found : ℕ → ℕ → List ReachRow → ℕ → List ReachRow
found from via rows to = if is_seen from rows to then rows else rows ++ row from to via ∷ []

-- all that one member needs, in order
abbrev pub found_by : List (List ℕ) → ℕ → List ReachRow → ℕ → List ReachRow
found_by graph from rows via = fold (found from via) rows (needs graph via)

abbrev pub from_row : Option ReachRow → List ReachRow → (ReachRow → List ReachRow) → List ReachRow
from_row None rows step = rows
from_row (Some r) rows step = step r

-- each row in turn, from one on, brings what its member needs. `most` bounds the steps; no member has more rows than there are members
unfoldable pub spread : List (List ℕ) → ℕ → ℕ → ℕ → List ReachRow → List ReachRow
spread graph from zero next rows = rows
spread graph from (suc most) next rows = from_row (slice_get rows next) rows (λ r. spread graph from most (next + 1) (found_by graph from rows r.to))

-- the rows of one member: what it needs itself, then what those need
abbrev pub reached : List (List ℕ) → ℕ → List ReachRow
reached graph from = spread graph from (length graph) 0 (found_by graph from [] from)

-- the rows of all members, in the order of the walk
unfoldable pub all_reached : List (List ℕ) → List ReachRow
all_reached graph = flat_map (reached graph) (range_with_len 0 (length graph))
