-- The lowest place in holes is the least aligned address at which a span fits.
use Rattle.std.proofs.Common.{◌≡◌, ℕ, ◌+◌, ◌-◌, ◌≤◌, ◌<◌, ◌%◌, ◌*◌, ◌/◌, true, List, [], ◌∷◌, Option, Some, None, refl, sym, ◌∙◌, subst, inl, inr, arith}
use Rattle.std.specs.Prelude.{nat_le, IfSome, IfNone}
use Rattle.std.proofs.lemmas.Bool.{cases_Bool, leb-true, leb-false, le-leb, eqb-true, and_parts, and_from, or_cases, or_left, or_right, false≢true, cases_lt}
use Rattle.std.proofs.lemmas.Option.{same_Some, none-some}
use Rattle.std.proofs.lemmas.Nat.{div-add-mod'}
use Rattle.std.proofs.Math.Nat.{div-mul-le_self, mul-le-mul_right, add-mul}
use Rattle.pl_base.specs.Sums.{round_up, is_aligned}
use Rattle.pl_base.proofs.SumLaws.{round_up-at_least, round_up-aligned}
use Rattle.pl_elf.specs.declared.range.Range.{Range}
use Rattle.pl_slots.specs.Holes.{fits_in, lowest, AreHoles, AreHolesFrom, spans_in, fits_at, IsPlace, IsLowest}

-- a multiple that is not below a number is not below the number rounded up
pub round_up-least : (x a y : ℕ) → 0 < a → is_aligned y a ≡ true → x ≤ y → round_up x a ≤ y
unfolding round_up
round_up-least x a y p aligned le =
    let r : ℕ = (x + (a - 1)) / a in
    let q : ℕ = y / a in
    let whole : q * a ≡ y = omega (arith, div-add-mod' y a, eqb-true (y % a) 0 aligned) in
    let below : r * a ≤ x + (a - 1) = div-mul-le_self (x + (a - 1)) a in
    elim (cases_lt q r) [
      | inl lt ↦
          let more : (q + 1) * a ≤ r * a = mul-le-mul_right a (omega (arith, lt)) in
          let one : (q + 1) * a ≡ q * a + 1 * a = add-mul q 1 a in
          absurd (omega (arith, more, one, below, whole, le, p))
      | inr at_most ↦
          let most : r * a ≤ q * a = mul-le-mul_right a at_most in
          omega (arith, most, whole)
    ]

-- a span that fits in the first hole, or in one of the others
first_fits : (hole : Range) (span start : ℕ) → spans_in start span hole ≡ true → (hole.start ≤ start) × (start + span ≤ hole.end)
first_fits hole span start fits =
    let parts = and_parts (nat_le hole.start start) (nat_le (start + span) hole.end) fits in
    (leb-true hole.start start parts.0, leb-true (start + span) hole.end parts.1)

-- what fits in holes is not below the first
pub fits_from : (low : ℕ) (holes : List Range) (span start : ℕ) → AreHolesFrom low holes → fits_at holes span start ≡ true → low ≤ start
fits_from low [] span start are fits = absurd (false≢true fits)
fits_from low (h ∷ holes) span start are fits = elim (or_cases (spans_in start span h) (fits_at holes span start) fits) [
  | inl here ↦ omega (arith, are.0, (first_fits h span start here).0)
  | inr later ↦ omega (arith, are.0, are.1, fits_from (h.end + 1) holes span start are.2 later)
]

pub is_lowest : (low span align start : ℕ) (holes : List Range) → 0 < align → AreHolesFrom low holes → Some start ≡ lowest span align holes → IsLowest holes span align start
unfolding lowest fits_in
is_lowest low span align start [] p are is = absurd cc
is_lowest low span align start (h ∷ holes) p are is = elim (cases_Bool (nat_le (round_up h.start align + span) h.end)) [
  | inl hit ↦
      let here : start ≡ round_up h.start align = same_Some start (round_up h.start align) (is ∙ (rw hit refl)) in
      let in_hole : round_up h.start align + span ≤ h.end = leb-true (round_up h.start align + span) h.end hit in
      let above : h.start ≤ round_up h.start align = round_up-at_least h.start align p in
      let first : spans_in (round_up h.start align) span h ≡ true = and_from _ _ (le-leb h.start (round_up h.start align) above) hit in
      let place : IsPlace (h ∷ holes) span align (round_up h.start align) = (round_up-aligned h.start align, or_left (spans_in (round_up h.start align) span h) (fits_at holes span (round_up h.start align)) first) in
      let least : (other : ℕ) → IsPlace (h ∷ holes) span align other → round_up h.start align ≤ other = λ other is_place.
      elim (or_cases (spans_in other span h) (fits_at holes span other) is_place.1) [
        | inl front ↦ round_up-least h.start align other p is_place.0 (first_fits h span other front).0
        | inr later ↦ omega (arith, in_hole, fits_from (h.end + 1) holes span other are.2 later)
      ] in
      subst (IsLowest (h ∷ holes) span align) (sym here) (place, least)
  | inr miss ↦
      let rest = is_lowest (h.end + 1) span align start holes p are.2 (is ∙ (rw miss refl)) in
      let place : IsPlace (h ∷ holes) span align start = (rest.0.0, or_right (spans_in start span h) (fits_at holes span start) rest.0.1) in
      let least : (other : ℕ) → IsPlace (h ∷ holes) span align other → start ≤ other = λ other is_place.
      elim (or_cases (spans_in other span h) (fits_at holes span other) is_place.1) [
        | inl front ↦ absurd (omega (arith, leb-false (round_up h.start align + span) h.end miss, (first_fits h span other front).1, round_up-least h.start align other p is_place.0 (first_fits h span other front).0))
        | inr later ↦ rest.1 other (is_place.0, later)
      ] in
      (place, least)
]

pub is_none : (span align start : ℕ) (holes : List Range) → 0 < align → None ≡ lowest span align holes → IsPlace holes span align start → ⊥
unfolding lowest fits_in
is_none span align start [] p is place = false≢true place.1
is_none span align start (h ∷ holes) p is place = elim (cases_Bool (nat_le (round_up h.start align + span) h.end)) [
  | inl hit ↦ absurd (none-some (round_up h.start align) (is ∙ (rw hit refl)))
  | inr miss ↦
      elim (or_cases (spans_in start span h) (fits_at holes span start) place.1) [
        | inl front ↦ omega (arith, leb-false (round_up h.start align + span) h.end miss, (first_fits h span start front).1, round_up-least h.start align start p place.0 (first_fits h span start front).0)
        | inr later ↦ is_none span align start holes p (is ∙ (rw miss refl)) (place.0, later)
      ]
]

-- as the clauses say it
pub lowest_is : (span align : ℕ) (holes : List Range) (answer : Option ℕ) → 0 < align → answer ≡ lowest span align holes → AreHoles holes → IfSome answer (IsLowest holes span align)
lowest_is span align holes (Some start) p is are = is_lowest 0 span align start holes p are is
lowest_is span align holes None p is are = tt

pub lowest_none : (span align : ℕ) (holes : List Range) (answer : Option ℕ) → 0 < align → answer ≡ lowest span align holes → IfNone answer ((start : ℕ) → IsPlace holes span align start → ⊥)
lowest_none span align holes (Some start) p is = tt
lowest_none span align holes None p is = λ start place. is_none span align start holes p is place
