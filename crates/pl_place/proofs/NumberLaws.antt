-- The places of a span in holes are numbered upwards, hole by hole.
use Rattle.std.proofs.Common.{◌≡◌, ℕ, zero, suc, ◌+◌, ◌-◌, ◌*◌, ◌/◌, ◌%◌, ◌≤◌, ◌<◌, Bool, true, false, ◌&&◌, ◌||◌, List, [], ◌∷◌, Some, None, refl, sym, ◌∙◌, arith, inl, inr, add-one}
use Rattle.std.specs.Prelude.{nat_le, nat_lt, max}
use Rattle.std.proofs.lemmas.Bool.{cases_Bool, cases_lt, leb-true, leb-false, le-leb, ltb-true, ltb-false, eqb-true, and_parts, and_from, and_right, or_left, or_right, false_from_ne_true}
use Rattle.std.proofs.lemmas.List.Sums.{sum_by-cons}
use Rattle.std.proofs.lemmas.Option.{same_Some, none-some}
use Rattle.std.proofs.lemmas.Nat.{div-add-mod', mod_below}
use Rattle.std.proofs.Math.Nat.{div-mul-le_self, mul-le-mul_right, add-mul, mul_comm, mul-mod_left}
use Rattle.pl_base.specs.Below.{count_below}
use Rattle.pl_base.specs.Sums.{round_up, is_aligned}
use Rattle.pl_base.proofs.SumLaws.{round_up-at_least}
use Rattle.pl_elf.specs.declared.range.Range.{Range}
use Rattle.pl_slots.specs.Holes.{fits_in, AreHolesFrom, spans_in, fits_at}
use Rattle.pl_slots.proofs.LowestLaws.{round_up-least, fits_from}
use Rattle.pl_place.specs.Left.{greatest_end}
use Rattle.pl_place.specs.Numbering.{is_place, places_below, room, all_room, place_in, numbered}
use Rattle.pl_place.proofs.CountLaws.{count_until, count_next, count_grows, count_split}
use Rattle.pl_place.proofs.LeftLaws.{most_of, most_grows}

-- ---- one hole

-- whether a span fits in one hole at an aligned address
abbrev here : Range → ℕ → ℕ → ℕ → Bool
here hole span align start = is_aligned start align && spans_in start span hole

here_parts : (hole : Range) (span align start : ℕ) → here hole span align start ≡ true → (is_aligned start align ≡ true) × ((hole.start ≤ start) × (start + span ≤ hole.end))
here_parts hole span align start hit =
    let a = and_parts (is_aligned start align) (spans_in start span hole) hit in
    let b = and_parts (nat_le hole.start start) (nat_le (start + span) hole.end) a.1 in
    (a.0, (leb-true hole.start start b.0, leb-true (start + span) hole.end b.1))

not_here : (hole : Range) (span align start : ℕ) → ((is_aligned start align ≡ true) → (hole.start ≤ start) → (start + span ≤ hole.end) → ⊥) → here hole span align start ≡ false
not_here hole span align start refute = false_from_ne_true (here hole span align start) (λ hit.
    let parts = here_parts hole span align start hit in
    refute parts.0 parts.1.0 parts.1.1)

-- a multiple above a multiple is at least the next one
next_multiple : (q a k : ℕ) → is_aligned k a ≡ true → q * a < k → (q + 1) * a ≤ k
next_multiple q a k aligned lt =
    let r : ℕ = k / a in
    let whole : r * a ≡ k = omega (arith, div-add-mod' k a, eqb-true (k % a) 0 aligned) in
    elim (cases_lt q r) [
      | inl more ↦
          let up : (q + 1) * a ≤ r * a = mul-le-mul_right a (omega (arith, more)) in
          omega (arith, up, whole)
      | inr less ↦
          let down : r * a ≤ q * a = mul-le-mul_right a less in
          absurd (omega (arith, down, whole, lt))
    ]

-- the place of a number is a multiple
place_multiple : (align number : ℕ) (hole : Range) → place_in align hole number ≡ ((hole.start + (align - 1)) / align + number) * align
unfolding place_in round_up
place_multiple align number hole =
    let sum : ((hole.start + (align - 1)) / align + number) * align ≡ (hole.start + (align - 1)) / align * align + number * align = add-mul ((hole.start + (align - 1)) / align) number align in
    omega (arith, sum, mul_comm align number)

place_aligned : (align number : ℕ) (hole : Range) → is_aligned (place_in align hole number) align ≡ true
place_aligned align number hole = rw (place_multiple align number hole) (rw (mul-mod_left ((hole.start + (align - 1)) / align + number) align) refl)

-- the next one is an alignment further
place_next : (align number : ℕ) (hole : Range) → place_in align hole (suc number) ≡ place_in align hole number + align
unfolding place_in
place_next align number hole =
    let sum : (number + 1) * align ≡ number * align + 1 * align = add-mul number 1 align in
    rw (sym (add-one number)) (omega (arith, sum, mul_comm align number, mul_comm align (number + 1)))

place_first : (align : ℕ) (hole : Range) → place_in align hole 0 ≡ round_up hole.start align
unfolding place_in
place_first align hole = omega arith

place_above : (align number : ℕ) (hole : Range) → 0 < align → hole.start ≤ place_in align hole number
unfolding place_in
place_above align number hole p = omega (arith, round_up-at_least hole.start align p)

-- how far the first place may move
abbrev slack : ℕ → ℕ → Range → ℕ
slack span align hole = hole.end - span - round_up hole.start align

room_some : (span align : ℕ) (hole : Range) → fits_in span align hole ≡ true → room span align hole ≡ slack span align hole / align + 1
unfolding room
room_some span align hole hit = rw hit refl

room_none : (span align : ℕ) (hole : Range) → fits_in span align hole ≡ false → room span align hole ≡ 0
unfolding room
room_none span align hole miss = rw miss refl

hit_fits : (span align : ℕ) (hole : Range) → fits_in span align hole ≡ true → round_up hole.start align + span ≤ hole.end
unfolding fits_in
hit_fits span align hole hit = leb-true (round_up hole.start align + span) hole.end hit

miss_passes : (span align : ℕ) (hole : Range) → fits_in span align hole ≡ false → hole.end < round_up hole.start align + span
unfolding fits_in
miss_passes span align hole miss = leb-false (round_up hole.start align + span) hole.end miss

-- a place of a number below the room lies in the hole
pub place_within : (span align : ℕ) (hole : Range) (number : ℕ) → number < room span align hole → place_in align hole number + span ≤ hole.end
unfolding place_in
place_within span align hole number lt = elim (cases_Bool (fits_in span align hole)) [
  | inl hit ↦
      let d : ℕ = slack span align hole in
      let at_most : number ≤ d / align = omega (arith, lt, room_some span align hole hit) in
      let up : number * align ≤ d / align * align = mul-le-mul_right align at_most in
      let down : d / align * align ≤ d = div-mul-le_self d align in
      omega (arith, up, down, mul_comm align number, hit_fits span align hole hit)
  | inr miss ↦ absurd (omega (arith, lt, room_none span align hole miss))
]

-- and every other passes its end
place_beyond : (span align : ℕ) (hole : Range) (number : ℕ) → 0 < align → room span align hole ≤ number → hole.end < place_in align hole number + span
unfolding place_in
place_beyond span align hole number p le = elim (cases_Bool (fits_in span align hole)) [
  | inl hit ↦
      let d : ℕ = slack span align hole in
      let at_least : d / align + 1 ≤ number = omega (arith, le, room_some span align hole hit) in
      let up : (d / align + 1) * align ≤ number * align = mul-le-mul_right align at_least in
      let one : (d / align + 1) * align ≡ d / align * align + 1 * align = add-mul (d / align) 1 align in
      omega (arith, up, one, div-add-mod' d align, mod_below d align p, mul_comm align number, hit_fits span align hole hit)
  | inr miss ↦ omega (arith, miss_passes span align hole miss)
]

place_here : (span align : ℕ) (hole : Range) (number : ℕ) → 0 < align → number < room span align hole → here hole span align (place_in align hole number) ≡ true
place_here span align hole number p lt =
    and_from _ _ (place_aligned align number hole) (and_from _ _ (le-leb hole.start (place_in align hole number) (place_above align number hole p)) (le-leb (place_in align hole number + span) hole.end (place_within span align hole number lt)))

-- so many places are below the place of a number
count_place : (span align : ℕ) (hole : Range) (number : ℕ) → 0 < align → number ≤ room span align hole → count_below (here hole span align) (place_in align hole number) ≡ number
count_place span align hole zero p le =
    count_until (here hole span align) 0 (place_in align hole 0) (omega arith)
    (λ k low high. not_here hole span align k (λ aligned above fits. omega (arith, high, place_first align hole, round_up-least hole.start align k p aligned above)))
count_place span align hole (suc number) p le =
    let at : ℕ = place_in align hole number in
    let q : ℕ = (hole.start + (align - 1)) / align + number in
    let one : (q + 1) * align ≡ q * align + 1 * align = add-mul q 1 align in
    let gap : count_below (here hole span align) (at + align) ≡ count_below (here hole span align) (at + 1) =
    count_until (here hole span align) (at + 1) (at + align) (omega (arith, p))
    (λ k low high. not_here hole span align k (λ aligned above fits.
    omega (arith, high, one, place_multiple align number hole, next_multiple q align k aligned (omega (arith, low, place_multiple align number hole))))) in
    rw (place_next align number hole) (omega (arith, gap, count_next (here hole span align) at (place_here span align hole number p (omega (arith, le))), count_place span align hole number p (omega (arith, le))))

-- all places of a hole are below its end
count_whole : (span align : ℕ) (hole : Range) (end : ℕ) → 0 < span → 0 < align → hole.end ≤ end → count_below (here hole span align) end ≡ room span align hole
count_whole span align hole end some p le =
    let r : ℕ = room span align hole in
    let at : ℕ = place_in align hole r in
    let beyond : hole.end < at + span = place_beyond span align hole r p (omega arith) in
    let counted : count_below (here hole span align) at ≡ r = count_place span align hole r p (omega arith) in
    elim (cases_lt at end) [
      | inl lt ↦ count_until (here hole span align) at end (omega (arith, lt)) (λ k low high. not_here hole span align k (λ aligned above fits. omega (arith, low, beyond, fits))) ∙ counted
      | inr ge ↦ sym (count_until (here hole span align) end at ge (λ k low high. not_here hole span align k (λ aligned above fits. omega (arith, low, fits, some, le)))) ∙ counted
    ]

count_most : (span align : ℕ) (hole : Range) (n : ℕ) → 0 < span → 0 < align → count_below (here hole span align) n ≤ room span align hole
count_most span align hole n some p =
    omega (arith, count_grows (here hole span align) n (n + hole.end) (omega arith), count_whole span align hole (n + hole.end) some p (omega arith))

-- ---- all holes

spread : (a b c : Bool) → (a && (b || c)) ≡ ((a && b) || (a && c))
spread true b c = refl
spread false b c = refl

place_split : (span align : ℕ) (hole : Range) (holes : List Range) (start : ℕ) → is_place (hole ∷ holes) span align start ≡ (here hole span align start || is_place holes span align start)
place_split span align hole holes start = spread (is_aligned start align) (spans_in start span hole) (fits_at holes span start)

place_low : (low span align : ℕ) (holes : List Range) (start : ℕ) → AreHolesFrom low holes → is_place holes span align start ≡ true → low ≤ start
place_low low span align holes start are hit = fits_from low holes span start are (and_parts (is_aligned start align) (fits_at holes span start) hit).1

place_apart : (span align : ℕ) (hole : Range) (holes : List Range) (start : ℕ) → AreHolesFrom (hole.end + 1) holes → (here hole span align start && is_place holes span align start) ≡ false
place_apart span align hole holes start are = false_from_ne_true _ (λ both.
    let parts = and_parts (here hole span align start) (is_place holes span align start) both in
    omega (arith, (here_parts hole span align start parts.0).1.1, place_low (hole.end + 1) span align holes start are parts.1))

-- those in the first hole and those in the others
count_first : (span align : ℕ) (hole : Range) (holes : List Range) (n : ℕ) → AreHolesFrom (hole.end + 1) holes → places_below (hole ∷ holes) span align n ≡ count_below (here hole span align) n + places_below holes span align n
count_first span align hole holes n are =
    count_split (is_place (hole ∷ holes) span align) (here hole span align) (is_place holes span align) (place_split span align hole holes) (λ k. place_apart span align hole holes k are) n

none_below : (low span align : ℕ) (holes : List Range) (n : ℕ) → AreHolesFrom low holes → n ≤ low → places_below holes span align n ≡ 0
none_below low span align holes n are le =
    count_until (is_place holes span align) 0 n (omega arith) (λ k above high. false_from_ne_true _ (λ hit. omega (arith, high, le, place_low low span align holes k are hit)))

none_in : (span align n : ℕ) → places_below [] span align n ≡ 0
none_in span align n = count_until (is_place [] span align) 0 n (omega arith) (λ k low high. and_right (is_aligned k align) false refl)

count_ends : (low span align most end : ℕ) (holes : List Range) → 0 < span → 0 < align → AreHolesFrom low holes → most_of most holes ≤ end → places_below holes span align end ≡ all_room span align holes
unfolding all_room
count_ends low span align most end [] some p are ends = none_in span align end
count_ends low span align most end (h ∷ holes) some p are ends =
    omega (
      arith,
      count_first span align h holes end are.2,
      count_whole span align h end some p (omega (arith, ends, most_grows (max most h.end) holes)),
      count_ends (h.end + 1) span align (max most h.end) end holes some p are.2 ends,
      sum_by-cons (room span align) h holes,
    )

pub all_counted : (low span align : ℕ) (holes : List Range) → 0 < span → 0 < align → AreHolesFrom low holes → places_below holes span align (greatest_end holes) ≡ all_room span align holes
unfolding greatest_end
all_counted low span align holes some p are = count_ends low span align 0 (most_of 0 holes) holes some p are (omega arith)

pub most_counted : (low span align : ℕ) (holes : List Range) (n : ℕ) → 0 < span → 0 < align → AreHolesFrom low holes → places_below holes span align n ≤ all_room span align holes
unfolding all_room
most_counted low span align [] n some p are = omega (arith, none_in span align n)
most_counted low span align (h ∷ holes) n some p are =
    omega (arith, count_first span align h holes n are.2, count_most span align h n some p, most_counted (h.end + 1) span align holes n some p are.2, sum_by-cons (room span align) h holes)

-- ---- the place of a number

pub numbered_is : (low span align : ℕ) (holes : List Range) (number start : ℕ) → 0 < span → 0 < align → AreHolesFrom low holes → Some start ≡ numbered span align holes number
    → (is_place holes span align start ≡ true) × ((places_below holes span align start ≡ number) × (low ≤ start))
unfolding numbered
numbered_is low span align [] number start some p are is = absurd cc
numbered_is low span align (h ∷ holes) number start some p are is = elim (cases_Bool (nat_lt number (room span align h))) [
  | inl first ↦
      let lt : number < room span align h = ltb-true number (room span align h) first in
      let at : start ≡ place_in align h number = same_Some start (place_in align h number) (is ∙ (rw first refl)) in
      let hit : here h span align start ≡ true = rw at (place_here span align h number p lt) in
      let counted : count_below (here h span align) start ≡ number = rw at (count_place span align h number p (omega (arith, lt))) in
      let parts = here_parts h span align start hit in (
        place_split span align h holes start ∙ or_left (here h span align start) (is_place holes span align start) hit,
        (
          omega (arith, count_first span align h holes start are.2, counted, none_below (h.end + 1) span align holes start are.2 (omega (arith, parts.1.1))),
          omega (arith, are.0, parts.1.0),
        ),
      )
  | inr later ↦
      let le : room span align h ≤ number = ltb-false number (room span align h) later in
      let rest = numbered_is (h.end + 1) span align holes (number - room span align h) start some p are.2 (is ∙ (rw later refl)) in (
        place_split span align h holes start ∙ or_right (here h span align start) (is_place holes span align start) rest.0,
        (
          omega (arith, count_first span align h holes start are.2, count_whole span align h start some p (omega (arith, rest.1.1)), rest.1.0, le),
          omega (arith, are.0, are.1, rest.1.1),
        ),
      )
]

pub numbered_none : (span align : ℕ) (holes : List Range) (number : ℕ) → None ≡ numbered span align holes number → all_room span align holes ≤ number
unfolding numbered all_room
numbered_none span align [] number is = omega arith
numbered_none span align (h ∷ holes) number is = elim (cases_Bool (nat_lt number (room span align h))) [
  | inl first ↦ absurd (none-some (place_in align h number) (is ∙ (rw first refl)))
  | inr later ↦ omega (arith, ltb-false number (room span align h) later, numbered_none span align holes (number - room span align h) (is ∙ (rw later refl)), sum_by-cons (room span align) h holes)
]
