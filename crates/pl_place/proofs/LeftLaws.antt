-- The free addresses beside busy ranges.
use Rattle.std.proofs.Common.{◌≡◌, ℕ, ◌+◌, ◌<◌, ◌≤◌, Bool, true, false, ◌&&◌, ◌||◌, not, List, [], ◌∷◌, refl, ◌∙◌, ap, arith, inl, inr}
use Rattle.std.specs.Prelude.{nat_le, nat_lt, fold, max}
use Rattle.std.proofs.lemmas.Bool.{cases_Bool, leb-true, lt-ltb, and_parts, or_cases, false≢true}
use Rattle.std.proofs.lemmas.Bool.Decides.{nat_tests}
use Rattle.pl_elf.specs.declared.range.Range.{Range}
use Rattle.pl_slots.specs.Holes.{region_holes, without, is_free, spans_in, fits_at}
use Rattle.pl_elf.specs.Ranges.{has}
use Rattle.pl_slots.proofs.HoleLaws.{free_without, free_in_region}
use Rattle.pl_place.specs.Left.{without_busy, left, greatest_end}

-- a range with addresses is taken out
pub without_busy_some : (holes : List Range) (taken : Range) → taken.start < taken.end → without_busy holes taken ≡ without taken holes
without_busy_some holes taken lt = rw (lt-ltb taken.start taken.end lt) refl

-- a range without addresses has none of them
none_in : (address : ℕ) (taken : Range) → nat_lt taken.start taken.end ≡ false → has address taken ≡ false
none_in address taken empty = grind (arith, nat_tests, empty)

kept : (b : Bool) → b ≡ (b && not false)
kept true = refl
kept false = refl

free_without_busy : (address : ℕ) (holes : List Range) (taken : Range) → is_free address (without_busy holes taken) ≡ (is_free address holes && not (has address taken))
free_without_busy address holes taken = elim (cases_Bool (nat_lt taken.start taken.end)) [
  | inl some ↦ rw some (free_without address taken holes)
  | inr none ↦ rw (none, none_in address taken none) (kept (is_free address holes))
]

both : (f t r : Bool) → ((f && not t) && not r) ≡ (f && not (t || r))
both true true r = refl
both true false r = refl
both false t r = refl

free_after : (address : ℕ) (holes busy : List Range) → is_free address (fold without_busy holes busy) ≡ (is_free address holes && not (is_free address busy))
free_after address holes [] = kept (is_free address holes)
free_after address holes (taken ∷ busy) =
    free_after address (without_busy holes taken) busy
    ∙ ap (λ b. b && not (is_free address busy)) (free_without_busy address holes taken)
    ∙ both (is_free address holes) (has address taken) (is_free address busy)

-- the addresses of the region that no busy range has
pub free_left : (address : ℕ) (region : Range) (busy : List Range) → is_free address (left region busy) ≡ (has address region && not (is_free address busy))
unfolding left
free_left address region busy = free_after address (region_holes region) busy ∙ ap (λ b. b && not (is_free address busy)) (free_in_region address region)

-- ---- the end of the highest hole

-- the greater of a number and all ends
abbrev pub most_of : ℕ → List Range → ℕ
most_of most holes = fold (λ end hole. max end hole.end) most holes

pub most_grows : (most : ℕ) (holes : List Range) → most ≤ most_of most holes
most_grows most [] = omega arith
most_grows most (h ∷ holes) = omega (arith, most_grows (max most h.end) holes)

fits_most : (most span start : ℕ) (holes : List Range) → fits_at holes span start ≡ true → start + span ≤ most_of most holes
fits_most most span start [] fits = absurd (false≢true fits)
fits_most most span start (h ∷ holes) fits = elim (or_cases (spans_in start span h) (fits_at holes span start) fits) [
  | inl first ↦ omega (arith, leb-true (start + span) h.end (and_parts (nat_le h.start start) (nat_le (start + span) h.end) first).1, most_grows (max most h.end) holes)
  | inr later ↦ fits_most (max most h.end) span start holes later
]

-- what fits ends there at most
pub fits_below_end : (span start : ℕ) (holes : List Range) → fits_at holes span start ≡ true → start + span ≤ greatest_end holes
unfolding greatest_end
fits_below_end span start holes fits = fits_most 0 span start holes fits
