-- The plan: kept rows first, then the others in their order, each at the least aligned address of a hole.
use Rattle.std.specs.Prelude.{◌≡◌, ◌≤◌, ℕ, Bool, true, false, ◌&&◌, nat_le, List, [], ◌∷◌, ◌++◌, Option, Some, None, Result, Ok, Err, fold}
use Rattle.std.specs.List.{find}
use Rattle.std.specs.Str.{bytes_eq}
use Rattle.pl_base.specs.Answers.{◌>>=◌}
use Rattle.pl_base.specs.Each.{run}
use Rattle.pl_base.specs.Sums.{is_aligned}
use Rattle.pl_elf.specs.Ranges.{range_from}
use Rattle.pl_elf.specs.declared.range.Range.{Range}
use Rattle.pl_slots.specs.declared.slot.Want.{Want}
use Rattle.pl_slots.specs.declared.slot.Slot.{Slot}
use Rattle.pl_slots.specs.declared.partial_plan.PartialPlan.{PartialPlan}
use Rattle.pl_slots.specs.declared.fault.PlanFault.{PlanFault}
use Rattle.pl_slots.specs.declared.fault.PlanFault.TheVariants.{NoSlot, NoMemory}
use Rattle.pl_slots.specs.Holes.{region_holes, without, spans_in, lowest, greatest}

abbrev pub is_memory : PlanFault → Bool
is_memory NoMemory = true
is_memory (NoSlot _ _ _) = false

-- the addresses of a slot
abbrev pub slot_range : Slot → Range
slot_range slot = range_from slot.start slot.span

-- whether a slot lies in a region
unfoldable pub lies_in : Range → Slot → Bool
lies_in region slot = spans_in slot.start slot.span region

-- whether a want keeps a row: it has the want's name, is no smaller than the want, aligned as it wants, and in the region
unfoldable pub keeps : Range → Want → Slot → Bool
keeps region want slot = bytes_eq slot.name want.name && nat_le want.span slot.span && is_aligned slot.start want.align && lies_in region slot

-- the row that a want keeps, if there is one
unfoldable pub kept_row : List Slot → Range → Want → Option Slot
kept_row kept region want = find (keeps region want) kept

-- what is left of holes beside a kept row, if there is one
abbrev pub without_kept : Option Slot → List Range → List Range
without_kept (Some slot) holes = without (slot_range slot) holes
without_kept None holes = holes

-- the holes that the kept rows of all wants leave in a region
unfoldable pub kept_holes : List Slot → Range → List Want → List Range
kept_holes kept region wants = fold (λ holes want. without_kept (kept_row kept region want) holes) (region_holes region) wants

-- the slot of a want at an address
abbrev pub slot_at : Want → ℕ → Slot
slot_at want start = record { name = want.name; start = start; span = want.span }

-- one row more
abbrev pub with_row : PartialPlan → Slot → PartialPlan
with_row planned slot = record { rows = planned.rows ++ slot ∷ []; holes = planned.holes }

-- a want at an address, which is taken from now on
abbrev pub at_place : PartialPlan → Want → Option ℕ → Result PartialPlan PlanFault
at_place planned want (Some start) = Ok (record { rows = planned.rows ++ slot_at want start ∷ []; holes = without (slot_range (slot_at want start)) planned.holes })
at_place planned want None = Err (NoSlot want.name want.span (greatest planned.holes))

-- a want that keeps no row takes the least aligned address of a hole
unfoldable pub placed : PartialPlan → Want → Result PartialPlan PlanFault
placed planned want = at_place planned want (lowest want.span want.align planned.holes)

abbrev pub kept_or_placed : PartialPlan → Want → Option Slot → Result PartialPlan PlanFault
kept_or_placed planned want (Some slot) = Ok (with_row planned slot)
kept_or_placed planned want None = placed planned want

unfoldable pub next : List Slot → Range → PartialPlan → Want → Result PartialPlan PlanFault
next kept region planned want = kept_or_placed planned want (kept_row kept region want)

-- the slots of all wants, in their order
unfoldable pub plan : List Slot → List Want → Range → Result (List Slot) PlanFault
plan kept wants region =
    run (next kept region) (record { rows = []; holes = kept_holes kept region wants }) wants >>= λ planned. Ok planned.rows

-- ---- what a plan is known to give

-- the row that a want keeps, whole, or else as many bytes as it wants
abbrev pub Gets : Option Slot → Want → Slot → Type 0
Gets (Some row) want slot = slot ≡ row
Gets None want slot = slot.span ≡ want.span

-- a slot serves a want: it is the want's, no smaller than the want, aligned as the want asks, and in the region
pub record Serves (kept : List Slot) (region : Range) (want : Want) (slot : Slot) : Type 0 where
  pub gets : Gets (kept_row kept region want) want slot
  pub name : slot.name ≡ want.name
  pub large : want.span ≤ slot.span
  pub aligned : is_aligned slot.start want.align ≡ true
  pub within : lies_in region slot ≡ true

-- one slot for each want, in their order
abbrev pub AllServe : List Slot → Range → List Want → List Slot → Type 0
AllServe kept region [] [] = Unit {0}
AllServe kept region (want ∷ wants) (slot ∷ slots) = Serves kept region want slot × AllServe kept region wants slots
AllServe kept region [] (slot ∷ slots) = ⊥
AllServe kept region (want ∷ wants) [] = ⊥
