-- Each row of a plan serves its want.
use Rattle.std.proofs.Common.{◌≡◌, ℕ, ◌+◌, ◌-◌, ◌≤◌, ◌<◌, true, ◌&&◌, suc, List, [], ◌∷◌, ◌++◌, Option, Some, None, Ok, refl, sym, ap, ◌∙◌, subst, inl, inr, arith, append_assoc}
use Rattle.std.specs.Prelude.{nat_le, nat_lt, fold, All}
use Rattle.std.specs.Cmp.Lexicographic.{same_text}
use Rattle.std.specs.Str.{bytes_eq}
use Rattle.std.proofs.lemmas.Bool.{cases_Bool, and_parts, and_from, or_cases, or_left, or_right, leb-true, ltb-true, le-leb, lt-ltb, false≢true}
use Rattle.std.proofs.lemmas.Option.{same_Some}
use Rattle.std.proofs.lemmas.List.{append-nil}
use Rattle.pl_base.specs.Each.{run}
use Rattle.pl_base.proofs.AnswerLaws.{bind_ok, ok_same}
use Rattle.pl_base.specs.Sums.{round_up, is_aligned}
use Rattle.pl_base.proofs.SumLaws.{round_up-at_least, round_up-aligned}
use Rattle.pl_base.proofs.FindLaws.{find_passes}
use Rattle.pl_elf.specs.declared.range.Range.{Range}
use Rattle.pl_slots.specs.declared.slot.Want.{Want}
use Rattle.pl_slots.specs.declared.slot.Slot.{Slot}
use Rattle.pl_slots.specs.declared.partial_plan.PartialPlan.{PartialPlan}
use Rattle.pl_slots.specs.Holes.{region_holes, without, lowest, fits_in, is_free, spans_in, fits_at, IsPlace}
use Rattle.pl_elf.specs.Ranges.{has}
use Rattle.pl_slots.specs.Plan.{next, placed, slot_at, at_place, with_row, kept_or_placed, kept_row, kept_holes, keeps, lies_in, slot_range, without_kept, Gets, Serves, AllServe}
use Rattle.pl_slots.proofs.HoleLaws.{free_without, free_in_region}

-- ---- wants that can be planned

-- aligned to something, and of some size
abbrev pub AreSome : List Want → Type 0
AreSome [] = Unit {0}
AreSome (want ∷ wants) = (0 < want.align) × (0 < want.span) × AreSome wants

pub are_some : (wants : List Want) → All (λ want. 0 < want.align) wants → All (λ want. 0 < want.span) wants → AreSome wants
are_some [] aligns spans = tt
are_some (want ∷ wants) aligns spans =
    (aligns 0 want (omega arith), spans 0 want (omega arith), are_some wants (λ k d lt. aligns (suc k) d (omega arith)) (λ k d lt. spans (suc k) d (omega arith)))

-- ---- a kept row

pub record IsKept (region : Range) (want : Want) (row : Slot) : Type 0 where
  pub name : row.name ≡ want.name
  pub large : want.span ≤ row.span
  pub aligned : is_aligned row.start want.align ≡ true
  pub within : lies_in region row ≡ true

pub is_kept : (kept : List Slot) (region : Range) (want : Want) (row : Slot) → Some row ≡ kept_row kept region want → IsKept region want row
unfolding kept_row keeps
is_kept kept region want row is =
    let all = find_passes (keeps region want) kept row (sym is) in
    let p1 = and_parts (bytes_eq row.name want.name && nat_le want.span row.span && is_aligned row.start want.align) (lies_in region row) all in
    let p2 = and_parts (bytes_eq row.name want.name && nat_le want.span row.span) (is_aligned row.start want.align) p1.0 in
    let p3 = and_parts (bytes_eq row.name want.name) (nat_le want.span row.span) p2.0 in
    record { name = same_text row.name want.name (sym p3.0); large = leb-true want.span row.span p3.1; aligned = p2.1; within = p1.1 }

-- ---- a place in holes

-- what is lowest is a place
pub lowest_fits : (span align start : ℕ) (holes : List Range) → 0 < align → Some start ≡ lowest span align holes → IsPlace holes span align start
unfolding lowest fits_in
lowest_fits span align start [] p is = absurd cc
lowest_fits span align start (h ∷ holes) p is = elim (cases_Bool (nat_le (round_up h.start align + span) h.end)) [
  | inl hit ↦
      let here : start ≡ round_up h.start align = same_Some start (round_up h.start align) (is ∙ (rw hit refl)) in
      let above : h.start ≤ round_up h.start align = round_up-at_least h.start align p in
      subst (IsPlace (h ∷ holes) span align) (sym here)
      (round_up-aligned h.start align, or_left (spans_in (round_up h.start align) span h) (fits_at holes span (round_up h.start align)) (and_from _ _ (le-leb h.start (round_up h.start align) above) hit))
  | inr miss ↦
      let rest = lowest_fits span align start holes p (is ∙ (rw miss refl)) in
      (rest.0, or_right (spans_in start span h) (fits_at holes span start) rest.1)
]

-- each address of a span that fits is free
pub fits_free : (holes : List Range) (span start address : ℕ) → fits_at holes span start ≡ true → start ≤ address → address < start + span → is_free address holes ≡ true
fits_free [] span start address fits le lt = absurd (false≢true fits)
fits_free (h ∷ holes) span start address fits le lt = elim (or_cases (spans_in start span h) (fits_at holes span start) fits) [
  | inl here ↦
      let parts = and_parts (nat_le h.start start) (nat_le (start + span) h.end) here in
      let low : h.start ≤ start = leb-true h.start start parts.0 in
      let high : start + span ≤ h.end = leb-true (start + span) h.end parts.1 in
      or_left (has address h) (is_free address holes) (and_from _ _ (le-leb h.start address (omega (arith, low, le))) (lt-ltb address h.end (omega (arith, high, lt))))
  | inr later ↦ or_right (has address h) (is_free address holes) (fits_free holes span start address later le lt)
]

-- ---- holes of a region

abbrev pub InRegion : Range → List Range → Type 0
InRegion region holes = (address : ℕ) → is_free address holes ≡ true → has address region ≡ true

pub still_free : (taken : Range) (holes : List Range) (address : ℕ) → is_free address (without taken holes) ≡ true → is_free address holes ≡ true
still_free taken holes address free = (and_parts (is_free address holes) _ (sym (free_without address taken holes) ∙ free)).0

without_kept_free : (row : Option Slot) (holes : List Range) (address : ℕ) → is_free address (without_kept row holes) ≡ true → is_free address holes ≡ true
without_kept_free (Some row) holes address free = still_free (slot_range row) holes address free
without_kept_free None holes address free = free

-- what is free beside the kept rows was free
pub free_before : (kept : List Slot) (region : Range) (wants : List Want) (holes : List Range) (address : ℕ)
    → is_free address (fold (λ holes want. without_kept (kept_row kept region want) holes) holes wants) ≡ true → is_free address holes ≡ true
free_before kept region [] holes address free = free
free_before kept region (want ∷ wants) holes address free =
    without_kept_free (kept_row kept region want) holes address (free_before kept region wants (without_kept (kept_row kept region want) holes) address free)

pub holes_in_region : (kept : List Slot) (region : Range) (wants : List Want) → InRegion region (kept_holes kept region wants)
unfolding kept_holes
holes_in_region kept region wants = λ address free. sym (free_in_region address region) ∙ free_before kept region wants (region_holes region) address free

-- a span that fits in holes of a region lies in the region
pub lies_where_free : (region : Range) (holes : List Range) (slot : Slot) → InRegion region holes → 0 < slot.span → fits_at holes slot.span slot.start ≡ true → lies_in region slot ≡ true
unfolding lies_in
lies_where_free region holes slot inside some fits =
    let first = and_parts (nat_le region.start slot.start) _ (inside slot.start (fits_free holes slot.span slot.start slot.start fits (omega arith) (omega (arith, some)))) in
    let last = and_parts _ (nat_lt (slot.start + slot.span - 1) region.end) (inside (slot.start + slot.span - 1) (fits_free holes slot.span slot.start (slot.start + slot.span - 1) fits (omega (arith, some)) (omega (arith, some)))) in
    and_from _ _ first.0 (le-leb (slot.start + slot.span) region.end (omega (arith, ltb-true (slot.start + slot.span - 1) region.end last.1, some)))

-- ---- one step of a plan

-- the state after a want: one row more, and perhaps fewer holes
pub record IsStep (kept : List Slot) (region : Range) (before : PartialPlan) (want : Want) (after : PartialPlan) : Type 0 where
  pub slot : Slot
  pub rows : after.rows ≡ before.rows ++ slot ∷ []
  pub serves : Serves kept region want slot
  pub fewer : (address : ℕ) → is_free address after.holes ≡ true → is_free address before.holes ≡ true

kept_serves : (kept : List Slot) (region : Range) (want : Want) (row : Slot) → Some row ≡ kept_row kept region want → Serves kept region want row
kept_serves kept region want row is =
    let k = is_kept kept region want row is in
    record { gets = subst (λ (o : Option Slot). Gets o want row) is refl; name = k.name; large = k.large; aligned = k.aligned; within = k.within }

place_serves : (kept : List Slot) (region : Range) (before : PartialPlan) (want : Want) (start : ℕ) → None ≡ kept_row kept region want → 0 < want.align → 0 < want.span → InRegion region before.holes
    → Some start ≡ lowest want.span want.align before.holes → Serves kept region want (slot_at want start)
place_serves kept region before want start none aligns some inside is =
    let place = lowest_fits want.span want.align start before.holes aligns is in
    record { gets = subst (λ (o : Option Slot). Gets o want (slot_at want start)) none refl; name = refl; large = omega arith; aligned = place.0; within = lies_where_free region before.holes (slot_at want start) inside some place.1 }

placed_is_step : (kept : List Slot) (region : Range) (before after : PartialPlan) (want : Want) (found : Option ℕ) → None ≡ kept_row kept region want → 0 < want.align → 0 < want.span → InRegion region before.holes
    → found ≡ lowest want.span want.align before.holes → at_place before want found ≡ Ok after → IsStep kept region before want after
placed_is_step kept region before after want (Some start) none aligns some inside is ok =
    let whole : record { rows = before.rows ++ slot_at want start ∷ []; holes = without (slot_range (slot_at want start)) before.holes } ≡ after = ok_same _ after ok in
    subst (IsStep kept region before want) whole
    (record { slot = slot_at want start; rows = refl; serves = place_serves kept region before want start none aligns some inside is; fewer = still_free (slot_range (slot_at want start)) before.holes })
placed_is_step kept region before after want None none aligns some inside is ok = absurd cc

is_step_by : (kept : List Slot) (region : Range) (before after : PartialPlan) (want : Want) (row : Option Slot) → row ≡ kept_row kept region want → 0 < want.align → 0 < want.span → InRegion region before.holes
    → kept_or_placed before want row ≡ Ok after → IsStep kept region before want after
unfolding placed
is_step_by kept region before after want (Some row) is aligns some inside ok =
    subst (IsStep kept region before want) (ok_same (with_row before row) after ok) (record { slot = row; rows = refl; serves = kept_serves kept region want row is; fewer = λ address free. free })
is_step_by kept region before after want None is aligns some inside ok = placed_is_step kept region before after want (lowest want.span want.align before.holes) is aligns some inside refl ok

is_step : (kept : List Slot) (region : Range) (before after : PartialPlan) (want : Want) → 0 < want.align → 0 < want.span → InRegion region before.holes → next kept region before want ≡ Ok after → IsStep kept region before want after
unfolding next
is_step kept region before after want aligns some inside ok = is_step_by kept region before after want (kept_row kept region want) refl aligns some inside ok

-- ---- all steps

pub record AllServed (kept : List Slot) (region : Range) (before : PartialPlan) (wants : List Want) (after : PartialPlan) : Type 0 where
  pub rows : List Slot
  pub all : after.rows ≡ before.rows ++ rows
  pub serve : AllServe kept region wants rows

pub all_serve : (kept : List Slot) (region : Range) (wants : List Want) (before after : PartialPlan) → AreSome wants → InRegion region before.holes
    → run (next kept region) before wants ≡ Ok after → AllServed kept region before wants after
unfolding run
all_serve kept region [] before after some inside ok =
    record { rows = []; all = sym (append-nil after.rows) ∙ ap (λ (p : PartialPlan). p.rows ++ []) (sym (ok_same before after ok)); serve = tt }
all_serve kept region (want ∷ wants) before after some inside ok =
    let split = bind_ok (next kept region before want) (λ t. run (next kept region) t wants) after ok in
    let step = is_step kept region before split.0 want some.0 some.1 inside split.1 in
    let rest = all_serve kept region wants split.0 after some.2 (λ address free. inside address (step.fewer address free)) split.2 in
    record { rows = step.slot ∷ rest.rows; all = rest.all ∙ ap (λ (rows : List Slot). rows ++ rest.rows) step.rows ∙ append_assoc before.rows (step.slot ∷ []) rest.rows; serve = (step.serves, rest.serve) }
