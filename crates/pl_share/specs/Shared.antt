-- The plan where slots of libraries may overlap that no walk holds together: kept rows first, then the others in their order, each at the least aligned address of a hole.
use Rattle.std.specs.Prelude.{◌≡◌, ◌≢◌, ℕ, ◌+◌, ◌<◌, ◌≤◌, ◌^◌, Bool, true, false, not, ◌||◌, ◌==◌, List, [], ◌∷◌, ◌++◌, length, fold, Option, Some, None, Result, Ok, Err, slice_index_or, if◌then◌else◌}
use Rattle.std.specs.List.{All, list_all, list_any, find, filter_map, range_with_len}
use Rattle.std.specs.Option.{option_map}
use Rattle.pl_base.specs.Answers.{◌>>=◌}
use Rattle.pl_base.specs.Sums.{is_aligned}
use Rattle.pl_elf.specs.declared.range.Range.{Range}
use Rattle.pl_slots.specs.declared.slot.Want.{Want}
use Rattle.pl_slots.specs.declared.slot.Slot.{Slot}
use Rattle.pl_slots.specs.declared.fault.PlanFault.{PlanFault}
use Rattle.pl_slots.specs.declared.fault.PlanFault.TheVariants.{NoSlot}
use Rattle.pl_slots.specs.Apart.{is_beside}
use Rattle.pl_slots.specs.Holes.{region_holes, without, lowest, greatest}
use Rattle.pl_slots.specs.Plan.{kept_row, slot_range, slot_at, lies_in}
use Rattle.pl_share.specs.declared.given.Given.{Given}
use Rattle.pl_share.specs.Together.{are_together}

abbrev pub given_to : ℕ → Slot → Given
given_to i slot = record { want = i; slot = slot }

-- what holds of the slots given so far, among so many wants
pub record AreGiven (given : List Given) (count : ℕ) : Type 0 where
  pub within : All (λ g. g.want < count) given
  pub ends : All (λ g. g.slot.start + g.slot.span < 2 ^ 64) given

-- the holes that slots of flagged wants leave
abbrev pub flagged_holes : List Bool → Range → List Given → List Range
flagged_holes flags region given = fold (λ holes g. if slice_index_or flags g.want false then without (slot_range g.slot) holes else holes) (region_holes region) given

-- ---- kept rows

-- a row meets no slot of a want that is loaded together with this one
abbrev pub is_clear : List (List ℕ) → List Given → ℕ → Slot → Bool
is_clear walks given i row = list_all (λ g. not (are_together walks i g.want) || is_beside row g.slot) given

abbrev pub with_clear_row : List (List ℕ) → List Given → ℕ → Option Slot → List Given
with_clear_row walks given i None = given
with_clear_row walks given i (Some row) = if is_clear walks given i row then given ++ given_to i row ∷ [] else given

-- the want at a position keeps its row
unfoldable pub kept : List Slot → List (List ℕ) → Range → List Given → ℕ → Want → List Given
kept rows walks region given i want = with_clear_row walks given i (kept_row rows region want)

-- so does each want from a position on
unfoldable pub all_kept : List Slot → List (List ℕ) → Range → List Given → ℕ → List Want → List Given
all_kept rows walks region given i [] = given
all_kept rows walks region given i (want ∷ wants) = all_kept rows walks region (kept rows walks region given i want) (i + 1) wants

-- ---- the others

-- what a slot leaves of holes, where it is one of a want that is loaded together with this one
abbrev pub without_slot : List (List ℕ) → ℕ → List Range → Given → List Range
without_slot walks i holes g = if are_together walks i g.want then without (slot_range g.slot) holes else holes

-- the holes that the slots given so far leave for a want
unfoldable pub holes_for : List (List ℕ) → Range → List Given → ℕ → List Range
holes_for walks region given i = fold (without_slot walks i) (region_holes region) given

abbrev pub has_slot : List Given → ℕ → Bool
has_slot given i = list_any (λ g. g.want == i) given

abbrev pub at_place : List Given → ℕ → Want → List Range → Option ℕ → Result (List Given) PlanFault
at_place given i want holes (Some start) = Ok (given ++ given_to i (slot_at want start) ∷ [])
at_place given i want holes None = Err (NoSlot want.name want.span (greatest holes))

-- a want that keeps no row takes the least aligned address of a hole
unfoldable pub placed : List (List ℕ) → Range → List Given → ℕ → Want → Result (List Given) PlanFault
placed walks region given i want =
    if has_slot given i then Ok given else at_place given i want (holes_for walks region given i) (lowest want.span want.align (holes_for walks region given i))

unfoldable pub all_placed : List (List ℕ) → Range → List Given → ℕ → List Want → Result (List Given) PlanFault
all_placed walks region given i [] = Ok given
all_placed walks region given i (want ∷ wants) = placed walks region given i want >>= λ more. all_placed walks region more (i + 1) wants

-- ---- the plan

-- the slot of a position
abbrev pub slot_of : List Given → ℕ → Option Slot
slot_of given i = option_map (λ g. g.slot) (find (λ g. g.want == i) given)

-- the slots of so many wants, in their order
abbrev pub slots_of : List Given → ℕ → List Slot
slots_of given count = filter_map (slot_of given) (range_with_len 0 count)

unfoldable pub plan_shared : List Slot → List Want → List (List ℕ) → Range → Result (List Slot) PlanFault
plan_shared rows wants walks region = all_placed walks region (all_kept rows walks region [] 0 wants) 0 wants >>= λ given. Ok (slots_of given (length wants))

-- ---- what a plan is known to give

-- a slot serves a want: it is the want's, no smaller than the want, aligned as the want asks, and in the region
pub record IsSlotFor (region : Range) (want : Want) (slot : Slot) : Type 0 where
  pub name : slot.name ≡ want.name
  pub large : want.span ≤ slot.span
  pub aligned : is_aligned slot.start want.align ≡ true
  pub within : lies_in region slot ≡ true

-- one slot for each want, in their order
pub record AreSlotsFor (region : Range) (wants : List Want) (slots : List Slot) : Type 0 where
  pub count : length slots ≡ length wants
  pub each : (i : ℕ) (w : Want) (s : Slot) → i < length wants → IsSlotFor region (slice_index_or wants i w) (slice_index_or slots i s)

-- in each walk no two slots share an address
abbrev pub WalksAreApart : List (List ℕ) → List Slot → Type 0
WalksAreApart walks slots = (i j : ℕ) (d : Slot) → i < length slots → j < length slots → i ≢ j → are_together walks i j ≡ true → is_beside (slice_index_or slots i d) (slice_index_or slots j d) ≡ true
