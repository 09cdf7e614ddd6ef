-- Where libraries, with their alignments, take no more addresses than a region has, each gets a slot.
use Rattle.std.proofs.Common.{◌≡◌, ℕ, ◌+◌, ◌-◌, ◌<◌, ◌≤◌, true, List, [], ◌∷◌, ◌++◌, Option, Some, None, Result, Ok, refl, sym, ap, ◌∙◌, arith, inl, inr}
use Rattle.std.specs.Prelude.{fold, max, min, nat_le}
use Rattle.std.specs.List.{AllByRecursion, flat_map}
use Rattle.std.proofs.lemmas.Bool.{and_from, and_parts, false≢true, le-leb, leb-true, lt-ltb, or_cases, or_left, or_right}
use Rattle.std.proofs.lemmas.List.Folds.{list_any-append}
use Rattle.std.proofs.Math.Nat.{div-mul-le_self}
use Rattle.pl_base.specs.Answers.{◌>>=◌}
use Rattle.pl_base.specs.Each.{run}
use Rattle.pl_base.specs.Sums.{round_up}
use Rattle.pl_base.proofs.SumLaws.{round_up-aligned, round_up-at_least}
use Rattle.pl_elf.specs.declared.range.Range.{Range}
use Rattle.law_folder.proofs.SlotLemmas.{Fits}
use Rattle.pl_share.specs.Disjoint as disjoint
use Rattle.pl_share.specs.Disjoint.{disjoint}
use Rattle.pl_slots.specs.Holes.{AreHoles, IsLowest, IsPlace, cut, fits_at, hole, lowest, region_holes, spans_in, without}
use Rattle.pl_slots.specs.Plan.{at_place, kept_holes, kept_row, next, placed, plan, slot_range, slot_at, without_kept}
use Rattle.pl_slots.specs.declared.fault.PlanFault.{PlanFault}
use Rattle.pl_slots.specs.declared.partial_plan.PartialPlan.{PartialPlan}
use Rattle.pl_slots.specs.declared.slot.Slot.{Slot}
use Rattle.pl_slots.specs.declared.slot.Want.{Want}
use Rattle.pl_slots.proofs.HoleLaws.{region_are_holes, without_are_holes}
use Rattle.pl_slots.proofs.LowestLaws.{is_lowest, is_none}

-- ---- a span in holes

spans : (h : Range) (m s : ℕ) → spans_in s m h ≡ true → (h.start ≤ s) × (s + m ≤ h.end)
spans h m s fits =
    let parts = and_parts (nat_le h.start s) (nat_le (s + m) h.end) fits in
    (leb-true h.start s parts.0, leb-true (s + m) h.end parts.1)

spans_back : (h : Range) (m s : ℕ) → h.start ≤ s → s + m ≤ h.end → spans_in s m h ≡ true
spans_back h m s above below = and_from (nat_le h.start s) (nat_le (s + m) h.end) (le-leb h.start s above) (le-leb (s + m) h.end below)

-- a part of it
fits_part : (holes : List Range) (m s n t : ℕ) → s ≤ t → t + n ≤ s + m → fits_at holes m s ≡ true → fits_at holes n t ≡ true
fits_part [] m s n t from to fits = absurd (false≢true fits)
fits_part (h ∷ holes) m s n t from to fits = elim (or_cases (spans_in s m h) (fits_at holes m s) fits) [
  | inl here ↦ let in_it = spans h m s here in or_left (spans_in t n h) (fits_at holes n t) (spans_back h n t (omega (arith, in_it.0, from)) (omega (arith, in_it.1, to)))
  | inr later ↦ or_right (spans_in t n h) (fits_at holes n t) (fits_part holes m s n t from to later)
]

-- its end, beside what was taken below it
one_hole : (a b n t : ℕ) → a ≤ t → a < b → t + n ≤ b → fits_at (hole a b) n t ≡ true
unfolding hole
one_hole a b n t above some below = rw (lt-ltb a b some) (or_left (spans_in t n (record { start = a; end = b })) (fits_at [] n t) (spans_back (record { start = a; end = b }) n t above below))

cut_left : (taken h : Range) (m s n t : ℕ) → s < t → taken.end < t → t + n ≡ s + m → spans_in s m h ≡ true → fits_at (cut taken h) n t ≡ true
unfolding cut
cut_left taken h m s n t from above same here =
    let in_it = spans h m s here in
    let last : fits_at (hole (max h.start taken.end) h.end) n t ≡ true = one_hole (max h.start taken.end) h.end n t (omega (arith, in_it.0, from, above)) (omega (arith, in_it.0, in_it.1, from, above, same)) (omega (arith, in_it.1, same)) in
    list_any-append (spans_in t n) (hole h.start (min h.end taken.start)) (hole (max h.start taken.end) h.end)
    ∙ or_right (fits_at (hole h.start (min h.end taken.start)) n t) (fits_at (hole (max h.start taken.end) h.end) n t) last

fits_left : (taken : Range) (holes : List Range) (m s n t : ℕ) → s < t → taken.end < t → t + n ≡ s + m → fits_at holes m s ≡ true → fits_at (without taken holes) n t ≡ true
unfolding without
fits_left taken [] m s n t from above same fits = absurd (false≢true fits)
fits_left taken (h ∷ holes) m s n t from above same fits =
    list_any-append (spans_in t n) (cut taken h) (flat_map (cut taken) holes)
    ∙ elim (or_cases (spans_in s m h) (fits_at holes m s) fits) [
      | inl here ↦ or_left (fits_at (cut taken h) n t) (fits_at (flat_map (cut taken) holes) n t) (cut_left taken h m s n t from above same here)
      | inr later ↦ or_right (fits_at (cut taken h) n t) (fits_at (flat_map (cut taken) holes) n t) (fits_left taken holes m s n t from above same later)
    ]

-- ---- one want

round_up-below : (x a : ℕ) → round_up x a ≤ x + (a - 1)
unfolding round_up
round_up-below x a = div-mul-le_self (x + (a - 1)) a

is_there : {X : Type 0} (o : Option X) → (None ≡ o → ⊥) → (x : X) × (o ≡ Some x)
is_there None never = absurd (never refl)
is_there (Some x) never = (x, refl)

-- it gets a place that ends below as many addresses as it takes with its alignment
one_place : (holes : List Range) (span align m s : ℕ) → 0 < align → AreHoles holes → fits_at holes m s ≡ true → span + align ≤ m
    → (start : ℕ) × (lowest span align holes ≡ Some start) × (start + span < s + (span + align))
one_place holes span align m s some are fits room =
    let below = round_up-below s align in
    let at_least = round_up-at_least s align some in
    let place : IsPlace holes span align (round_up s align) = (round_up-aligned s align, fits_part holes m s span (round_up s align) at_least (omega (arith, below, some, room)) fits) in
    let found = is_there (lowest span align holes) (λ none. is_none span align (round_up s align) holes some none place) in
    let least : IsLowest holes span align found.0 = is_lowest 0 span align found.0 holes some are (sym found.1) in
    (found.0, found.1, omega (arith, least.1 (round_up s align) place, below, some))

-- ---- all wants

-- how many addresses wants take with their alignments
abbrev pub all_take : List Want → ℕ
all_take [] = 0
all_take (w ∷ ws) = w.span + w.align + all_take ws

abbrev with_place : PartialPlan → Want → ℕ → PartialPlan
with_place planned w start = record { rows = planned.rows ++ slot_at w start ∷ []; holes = without (slot_range (slot_at w start)) planned.holes }

placing : (region : Range) (ws : List Want) (planned : PartialPlan) (m s : ℕ) → AllByRecursion Fits ws → AreHoles planned.holes → fits_at planned.holes m s ≡ true → all_take ws ≤ m
    → (after : PartialPlan) × (run (next [] region) planned ws ≡ Ok after)
unfolding run next kept_row placed
placing region [] planned m s fits are free room = (planned, refl)
placing region (w ∷ ws) planned m s fits are free room =
    let p = one_place planned.holes w.span w.align m s fits.0.align are free (omega (arith, room)) in
    let some = fits.0.some in
    let rest = placing region ws (with_place planned w p.0) (m - (w.span + w.align)) (s + (w.span + w.align)) fits.1
    (without_are_holes (slot_range (slot_at w p.0)) planned.holes (omega (arith, some)) are)
    (fits_left (slot_range (slot_at w p.0)) planned.holes m s (m - (w.span + w.align)) (s + (w.span + w.align)) (omega (arith, some)) p.2 (omega (arith, room)) free) (omega (arith, room)) in
    (rest.0, ap (λ (o : Option ℕ). at_place planned w o >>= λ t. run (next [] region) t ws) p.1 ∙ rest.1)

-- ---- without rows to keep

none_kept : (region : Range) (ws : List Want) (kept : List Slot) → fold (λ kept want. disjoint.with_disjoint_row kept (kept_row [] region want)) kept ws ≡ kept
unfolding kept_row
none_kept region [] kept = refl
none_kept region (w ∷ ws) kept = none_kept region ws kept

no_rows : (region : Range) (ws : List Want) → disjoint [] ws region ≡ []
unfolding disjoint
no_rows region ws = none_kept region ws []

all_holes : (region : Range) (ws : List Want) (holes : List Range) → fold (λ holes want. without_kept (kept_row [] region want) holes) holes ws ≡ holes
unfolding kept_row
all_holes region [] holes = refl
all_holes region (w ∷ ws) holes = all_holes region ws holes

whole_region : (region : Range) (ws : List Want) → kept_holes [] region ws ≡ region_holes region
unfolding kept_holes
whole_region region ws = all_holes region ws (region_holes region)

region_fits : (region : Range) (m : ℕ) → region.start < region.end → region.start + m ≤ region.end → fits_at (region_holes region) m region.start ≡ true
unfolding region_holes
region_fits region m some room = one_hole region.start region.end m region.start (omega arith) some room

-- each want gets a slot
pub all_placed : (region : Range) (ws : List Want) → region.start < region.end → region.start + all_take ws ≤ region.end → AllByRecursion Fits ws → (slots : List Slot) × (plan (disjoint [] ws region) ws region ≡ Ok slots)
unfolding plan
all_placed region ws some room fits =
    let begun : PartialPlan = record { rows = []; holes = region_holes region } in
    let p = placing region ws begun (all_take ws) region.start fits (region_are_holes region) (region_fits region (all_take ws) some room) (omega arith) in (
      p.0.rows,
      ap (λ (kept : List Slot). run (next kept region) (record { rows = []; holes = kept_holes kept region ws }) ws >>= λ (planned : PartialPlan). Ok planned.rows) (no_rows region ws)
          ∙ (ap (λ (holes : List Range). run (next [] region) (record { rows = []; holes = holes }) ws >>= λ (planned : PartialPlan). Ok planned.rows) (whole_region region ws)
          ∙ ap (λ (r : Result PartialPlan PlanFault). r >>= λ (planned : PartialPlan). Ok planned.rows) p.1),
    )
