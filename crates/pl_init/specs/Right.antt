-- When rows are the whole relation "reaches", as a test that needs no search.
use Rattle.std.specs.Prelude.{◌≡◌, ℕ, Bool, true, not, ◌&&◌, ◌==◌, nat_lt, nat_le, List, [], ◌∷◌, ◌++◌, length, ◌↔◌}
use Rattle.std.specs.List.{list_any, list_all, filter, range_with_len}
use Rattle.pl_scope.specs.Walk.{Walked}
use Rattle.pl_init.specs.declared.relation.ReachRow.{ReachRow}
use Rattle.pl_init.specs.Graph.{graph, needs, has_number}
use Rattle.pl_init.specs.Leads.{Reaches}
use Rattle.pl_init.specs.Found.{is_seen}

-- from a number on, no row begins below the one before it
abbrev pub ascends : ℕ → List ReachRow → Bool
ascends last [] = true
ascends last (r ∷ rows) = nat_le last r.from && ascends r.from rows

-- the numbers of a row are numbers of members
abbrev pub is_numbered : ℕ → ReachRow → Bool
is_numbered count r = nat_lt r.from count && nat_lt r.to count && nat_lt r.via count

-- the numbers of all rows are numbers of members
abbrev pub are_numbered : ℕ → List ReachRow → Bool
are_numbered count rows = list_all (is_numbered count) rows

-- the rows of one member
abbrev pub rows_of : List ReachRow → ℕ → List ReachRow
rows_of rows m = filter (λ r. r.from == m) rows

-- a row after others of its member: it leads to a new one, which is neither the member itself, by the member itself or by one found before, which needs the new one
unfoldable pub is_step : List (List ℕ) → ℕ → List ReachRow → ReachRow → Bool
is_step graph m before r = not (is_seen m before r.to) && is_seen m before r.via && has_number (needs graph r.via) r.to

-- each row of a member in turn, after those before it
unfoldable pub are_steps : List (List ℕ) → ℕ → List ReachRow → List ReachRow → Bool
are_steps graph m before [] = true
are_steps graph m before (r ∷ rows) = is_step graph m before r && are_steps graph m (before ++ r ∷ []) rows

-- all that a member needs was seen
abbrev pub holds_needs : List (List ℕ) → ℕ → List ReachRow → ℕ → Bool
holds_needs graph m rows k = list_all (is_seen m rows) (needs graph k)

-- what the member needs, and what each needs to which its rows lead, was seen
unfoldable pub is_closed : List (List ℕ) → ℕ → List ReachRow → Bool
is_closed graph m rows = holds_needs graph m rows m && list_all (λ r. holds_needs graph m rows r.to) rows

abbrev pub is_right_at : List (List ℕ) → List ReachRow → ℕ → Bool
is_right_at graph rows m = are_steps graph m [] (rows_of rows m) && is_closed graph m (rows_of rows m)

-- the rows stand by ascending `from`, all numbers are members', and those of each member are steps and closed
unfoldable pub is_right : List (List ℕ) → List ReachRow → Bool
is_right graph rows =
    ascends 0 rows && list_all (is_numbered (length graph)) rows && list_all (is_right_at graph rows) (range_with_len 0 (length graph))

-- a row leads from i to j
abbrev pub reaches : List ReachRow → ℕ → ℕ → Bool
reaches rows i j = list_any (λ r. r.from == i && r.to == j) rows

-- the rows are the relation
abbrev pub AreReaches : Walked → List ReachRow → Type 0
AreReaches walked rows = (i j : ℕ) → (reaches rows i j ≡ true) ↔ Reaches walked i j
