-- What the libraries of a table want, and where they go.
use Rattle.std.specs.Prelude.{◌≡◌, ℕ, Bool, true, false, List, [], ◌∷◌, ◌++◌, map, filter, length, slice_get, Option, Some, None, Result, Ok, Err, if◌then◌else◌}
use Rattle.std.specs.List.{filter_map, cons_option, range_with_len}
use Rattle.pl_base.specs.Answers.{Answers, because}
use Rattle.pl_cone.specs.Faulted.{is_memory, of_plan}
use Rattle.pl_cone.specs.Plans.{start_of, want_of}
use Rattle.pl_cone.specs.Table.{IsRunTableOfSome, is_candidate_row, rows_of, walk_of}
use Rattle.pl_cone.specs.Taken.{object_by}
use Rattle.pl_cone.specs.declared.planning.Asked.{Asked}
use Rattle.pl_cone.specs.declared.skip.PlanningFault.{PlanningFault}
use Rattle.pl_cone.specs.declared.planning.PlannedSlots.{PlannedSlots}
use Rattle.pl_cone.specs.declared.planning.Wanting.{Wanting}
use Rattle.pl_cone.specs.declared.table.RunTable.{RunTable}
use Rattle.pl_cone.specs.declared.taken.Taken.{Taken}
use Rattle.pl_io.specs.declared.no_memory.NoMemory.{NoMemory}
use Rattle.pl_object.specs.declared.object.Object.{Object}
use Rattle.pl_share.specs.Disjoint.{disjoint}
use Rattle.pl_share.specs.Shared.{plan_shared}
use Rattle.pl_slots.specs.Plan.{plan}
use Rattle.pl_slots.specs.declared.slot.Slot.{Slot}
use Rattle.pl_slots.specs.declared.slot.Want.{Want}

-- ---- wants

abbrev pub object_told : List ℕ → Option Object → Option Want
object_told n None = None
object_told n (Some o) = want_of n (Ok o)

abbrev pub want_in : Option Taken → Option Want
want_in None = None
want_in (Some t) = object_told t.name (object_by t.entry)

-- what the library of a row wants, where it may be prelinked
abbrev pub want_at : RunTable → ℕ → Option Want
want_at t row = if is_candidate_row t row then want_in (slice_get t.files.now row) else None

abbrev pub is_there : Option Want → Bool
is_there None = false
is_there (Some want) = true

abbrev pub position_if : Bool → ℕ → Option ℕ
position_if true position = Some position
position_if false position = None

abbrev pub AddsWant : Option Want → Wanting → Wanting → Result (Unit {0}) NoMemory → Type 0
AddsWant want before after (Err fault) = Unit {0}
AddsWant want before after (Ok u) = (after.wants ≡ before.wants ++ cons_option want []) × (after.positions.items ≡ before.positions.items ++ position_if (is_there want) (length before.wants) ∷ [])

-- the wants of all rows
abbrev pub table_wants : RunTable → List Want
table_wants t = filter_map (want_at t) (rows_of t)

-- how many rows before one want slots
abbrev pub count_before : RunTable → ℕ → ℕ
count_before t row = length (filter_map (want_at t) (range_with_len 0 row))

-- the position of a row's want, if it has one
abbrev pub position_at : RunTable → ℕ → Option ℕ
position_at t row = position_if (is_there (want_at t row)) (count_before t row)

abbrev pub positions : RunTable → List (Option ℕ)
positions t = map (position_at t) (rows_of t)

pub record IsWanting (t : RunTable) (w : Wanting) : Type 0 where
  pub wants : w.wants ≡ table_wants t
  pub positions : w.positions.items ≡ positions t

-- a table, and what its rows want
pub record IsWantedBy (t : RunTable) (w : Wanting) : Type 0 where
  pub table : IsRunTableOfSome t
  pub wanting : IsWanting t w

-- ---- walks

abbrev pub joined : Option (Option ℕ) → Option ℕ
joined None = None
joined (Some position) = position

abbrev pub positions_in : List (Option ℕ) → List ℕ → List ℕ
positions_in all rows = filter_map (λ r. joined (slice_get all r)) rows

-- for each name that may be prelinked
abbrev pub table_walks : RunTable → List (List ℕ)
table_walks t = map (λ row. positions_in (positions t) (walk_of t row)) (filter (is_candidate_row t) (rows_of t))

-- ---- slots

abbrev pub table_slots : RunTable → Asked → Result (List Slot) PlanningFault
table_slots t a = because of_plan (if a.share then plan_shared a.rows.now (table_wants t) (table_walks t) a.region else plan (disjoint a.rows.now (table_wants t) a.region) (table_wants t) a.region)

abbrev pub start_at : List Slot → Option ℕ → ℕ
start_at slots None = 0
start_at slots (Some position) = start_of (slice_get slots position)

-- the slots have the names of the wants, in their order
abbrev pub HaveWantedNames : List Want → List Slot → Type 0
HaveWantedNames ws slots = map (λ s. s.name) slots ≡ map (λ w. w.name) ws

-- the slots, and where each row's starts; or the fault
abbrev pub PlacesSlots : RunTable → Asked → Result PlannedSlots PlanningFault → Type 0
PlacesSlots t a (Ok p) = (table_slots t a ≡ Ok p.slots) × HaveWantedNames (table_wants t) p.slots × (p.places ≡ map (start_at p.slots) (positions t))
PlacesSlots t a (Err fault) = Answers is_memory (Err fault) (table_slots t a)
