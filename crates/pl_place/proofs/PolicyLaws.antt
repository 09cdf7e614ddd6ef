-- What the places of numbers are to a policy.
use Rattle.std.proofs.Common.{◌≡◌, ℕ, ◌+◌, ◌-◌, ◌%◌, ◌≤◌, ◌<◌, ◌==◌, true, false, refl, List, Option, Some, None, sym, ◌∙◌, ap, arith, inl, inr}
use Rattle.std.specs.Prelude.{IfSome}
use Rattle.std.proofs.lemmas.Bool.{and_parts, and_from, cases_lt}
use Rattle.std.proofs.lemmas.Nat.{mod_below}
use Rattle.std.proofs.lemmas.Bool.Decides.{nat_tests}
use Rattle.pl_base.specs.Sums.{is_aligned, plus}
use Rattle.pl_base.proofs.TestLaws.{power_some}
use Rattle.pl_elf.specs.declared.range.Range.{Range}
use Rattle.pl_slots.specs.Holes.{AreHoles, fits_at, IsPlace}
use Rattle.pl_place.specs.Numbering.{is_place, all_room, numbered, first_word, IsSeeded}
use Rattle.pl_place.specs.Policies.{highest, seeded}
use Rattle.pl_place.specs.Policy.{MayAnswer, IsHighest, IsAsked}
use Rattle.pl_place.proofs.CountLaws.{count_next, count_grows}
use Rattle.pl_place.proofs.NumberLaws.{all_counted, most_counted, numbered_is, numbered_none}

pub align_some : (span align : ℕ) → IsAsked span align → 0 < align
align_some span align asked = power_some align asked.power

place_from : (holes : List Range) (span align start : ℕ) → is_place holes span align start ≡ true → IsPlace holes span align start
place_from holes span align start hit = and_parts (is_aligned start align) (fits_at holes span start) hit

place_test : (holes : List Range) (span align start : ℕ) → IsPlace holes span align start → is_place holes span align start ≡ true
place_test holes span align start place = and_from (is_aligned start align) (fits_at holes span start) place.0 place.1

-- no room, no place
pub no_room : (span align : ℕ) (holes : List Range) → IsAsked span align → AreHoles holes → all_room span align holes ≡ 0 → (start : ℕ) → IsPlace holes span align start → ⊥
no_room span align holes asked are none start place =
    let more = count_next (is_place holes span align) start (place_test holes span align start place) in
    let most = most_counted 0 span align holes (start + 1) asked.some (align_some span align asked) are in
    omega (arith, more, most, none)

-- the last place is the greatest
pub highest_is : (span align : ℕ) (holes : List Range) (answer : Option ℕ) → IsAsked span align → AreHoles holes → 0 < all_room span align holes → answer ≡ numbered span align holes (all_room span align holes - 1)
    → MayAnswer holes span align answer × IfSome answer (IsHighest holes span align)
highest_is span align holes None asked are some is = absurd (omega (arith, some, numbered_none span align holes (all_room span align holes - 1) is))
highest_is span align holes (Some start) asked are some is =
    let p : 0 < align = align_some span align asked in
    let at = numbered_is 0 span align holes (all_room span align holes - 1) start asked.some p are is in
    let place : IsPlace holes span align start = place_from holes span align start at.0 in
    let one = count_next (is_place holes span align) start at.0 in
    let greatest : (other : ℕ) → IsPlace holes span align other → other ≤ start = λ other there. elim (cases_lt start other) [
      | inl above ↦
          let more = count_next (is_place holes span align) other (place_test holes span align other there) in
          let grows = count_grows (is_place holes span align) (start + 1) other (omega (arith, above)) in
          let most = most_counted 0 span align holes (other + 1) asked.some p are in
          absurd (omega (arith, at.1.0, one, more, grows, most, some))
      | inr at_most ↦ at_most
    ] in
    (place, (place, greatest))

-- the place that a number chooses
pub seeded_is : (number span align : ℕ) (holes : List Range) (answer : Option ℕ) → IsAsked span align → AreHoles holes → 0 < all_room span align holes
    → answer ≡ numbered span align holes (first_word (plus number span) % all_room span align holes) → MayAnswer holes span align answer × IfSome answer (IsSeeded number holes span align)
seeded_is number span align holes None asked are some is =
    absurd (omega (arith, numbered_none span align holes (first_word (plus number span) % all_room span align holes) is, mod_below (first_word (plus number span)) (all_room span align holes) some))
seeded_is number span align holes (Some start) asked are some is =
    let p : 0 < align = align_some span align asked in
    let at = numbered_is 0 span align holes (first_word (plus number span) % all_room span align holes) start asked.some p are is in (
      place_from holes span align start at.0,
      at.1.0 ∙ ap (λ (all : ℕ). first_word (plus number span) % all) (sym (all_counted 0 span align holes asked.some p are)),
    )

-- ---- the policies as functions

pub highest_none : (holes : List Range) (span align : ℕ) → all_room span align holes ≡ 0 → None ≡ highest holes span align
unfolding highest
highest_none holes span align none = rw none refl

pub highest_some : (holes : List Range) (span align : ℕ) → 0 < all_room span align holes → numbered span align holes (all_room span align holes - 1) ≡ highest holes span align
unfolding highest
highest_some holes span align some = let not_none : (all_room span align holes == 0) ≡ false = grind (arith, nat_tests) in rw not_none refl

pub seeded_none : (number : ℕ) (holes : List Range) (span align : ℕ) → all_room span align holes ≡ 0 → None ≡ seeded number holes span align
unfolding seeded
seeded_none number holes span align none = rw none refl

pub seeded_some : (number : ℕ) (holes : List Range) (span align : ℕ) → 0 < all_room span align holes → numbered span align holes (first_word (plus number span) % all_room span align holes) ≡ seeded number holes span align
unfolding seeded
seeded_some number holes span align some = let not_none : (all_room span align holes == 0) ≡ false = grind (arith, nat_tests) in rw not_none refl
