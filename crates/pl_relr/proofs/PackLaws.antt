-- A packed table names the places that it was made of.
use Rattle.std.proofs.Common.{Bool, add-one, add-zero, nat_le, nat_lt, ◌&&◌, ◌≡◌, ℕ, zero, suc, ◌+◌, ◌-◌, ◌*◌, ◌/◌, ◌%◌, ◌^◌, ◌<◌, ◌≤◌, List, [], ◌∷◌, ◌++◌, length, take, drop, map, get_or, refl, sym, ap, subst, ◌∙◌, append_assoc, arith, length-drop, true, false, eqb, inl, inr, Ok}
use Rattle.std.proofs.lemmas.Bool.{cond-true, cond-false, cases_Bool, cases_lt, eqb-true, eq-eqb, and_parts, ltb-true, leb-true}
use Rattle.std.proofs.lemmas.List.{append-nil, take-append-drop, drop-drop, drop_all, take_all, at_drop_more, at_drop_all, get_or-drop}
use Rattle.std.proofs.lemmas.List.Sums.{sum_by-cons, take_while-cons}
use Rattle.std.proofs.lemmas.Nat.{shr_high, pow-add}
use Rattle.std.proofs.Math.Nat.{pow-succ'}
use Rattle.std.specs.List.{filter, range_with_len, sum_by, take_while}
use Rattle.pl_base.specs.Bytes.{bytes64}
use Rattle.pl_base.specs.Sums.{plus, is_aligned}
use Rattle.pl_relr.specs.declared.entries.TheConstants.{ENTRY_SIZE, PLACE_SIZE, PLACES_END, SPAN, BITS}
use Rattle.pl_relr.specs.Entries.{entries, table_of, is_even}
use Rattle.pl_relr.specs.Places.{place_bits, odd_places, place_of_bit, has_bit, entry_places, following, places_from, places, begins_odd, unpacked}
use Rattle.pl_relr.specs.Pack.{follows, is_packable_from, is_packable, ArePackable, can_name, bit_of, odd_entry, named_count, packed_from, packed_entries, packed}
use Rattle.pl_relr.proofs.EntryLaws.{AreWords, entries-table_of, length-table_of}
use Rattle.pl_relr.proofs.PlaceLaws.{all_good}

-- ---- one bit of a number

double : (a : ℕ) → 2 ^ suc a ≡ 2 * 2 ^ a
double a = pow-succ' 2 a

-- numbers below a bit and multiples of the next one leave it clear
pub bit_clear : (a low m : ℕ) → low < 2 ^ a → has_bit (2 ^ suc a * m + low) a ≡ false
bit_clear a low m small =
    let split : 2 ^ suc a * m + low ≡ (2 * m) * 2 ^ a + low = ap (λ (x : ℕ). x * m + low) (double a) ∙ omega arith in
    let high : (2 ^ suc a * m + low) / 2 ^ a ≡ 2 * m = ap (λ (x : ℕ). x / 2 ^ a) split ∙ shr_high (2 * m) a low small in
    let even : (2 * m) % 2 ≡ 0 = omega arith in
    ap (λ (x : ℕ). eqb (x % 2) 1) high ∙ ap (λ (x : ℕ). eqb x 1) even

-- with the bit itself it is set
pub bit_set : (a low m : ℕ) → low < 2 ^ a → has_bit (2 ^ suc a * m + (2 ^ a + low)) a ≡ true
bit_set a low m small =
    let split : 2 ^ suc a * m + (2 ^ a + low) ≡ (2 * m + 1) * 2 ^ a + low = ap (λ (x : ℕ). x * m + (2 ^ a + low)) (double a) ∙ omega arith in
    let high : (2 ^ suc a * m + (2 ^ a + low)) / 2 ^ a ≡ 2 * m + 1 = ap (λ (x : ℕ). x / 2 ^ a) split ∙ shr_high (2 * m + 1) a low small in
    let odd : (2 * m + 1) % 2 ≡ 1 = omega arith in
    ap (λ (x : ℕ). eqb (x % 2) 1) high ∙ ap (λ (x : ℕ). eqb x 1) odd

-- ---- places whose bits ascend

-- places whose bits ascend from `low` on and stay below `high`
abbrev pub AreBits : ℕ → ℕ → ℕ → List ℕ → Type 0
AreBits next low high [] = Unit {0}
AreBits next low high (x ∷ xs) = (low ≤ bit_of next x) × (bit_of next x < high) × (place_of_bit next (bit_of next x) ≡ x) × AreBits next (bit_of next x + 1) high xs

abbrev bits : ℕ → List ℕ → ℕ
bits next xs = sum_by (λ x. 2 ^ bit_of next x) xs

from_lower : (next low low' high : ℕ) (xs : List ℕ) → low' ≤ low → AreBits next low high xs → AreBits next low' high xs
from_lower next low low' high [] le h = tt
from_lower next low low' high (x ∷ xs) le h = (omega (arith, h.0), h.1, h.2, h.3)

-- bits from one on are a multiple of its power
multiple : (next low high : ℕ) (xs : List ℕ) → AreBits next low high xs → (m : ℕ) × (bits next xs ≡ 2 ^ low * m)
multiple next low high [] h = (0, omega arith)
multiple next low high (x ∷ xs) h =
    let rest = multiple next low high xs (from_lower next (bit_of next x + 1) low high xs (omega (arith, h.0)) h.3) in
    let power : 2 ^ bit_of next x ≡ 2 ^ low * 2 ^ (bit_of next x - low) = ap (λ (k : ℕ). 2 ^ k) (omega (arith, h.0)) ∙ pow-add 2 low (bit_of next x - low) in
    (2 ^ (bit_of next x - low) + rest.0, sum_by-cons (λ (y : ℕ). 2 ^ bit_of next y) x xs ∙ omega (arith, power, rest.1))

-- ---- the bits that are set

above : (low rest : ℕ) → rest < 2 ^ low → rest < 2 ^ (low + 1)
above low rest small = rw (add-one low) (omega (arith, double low, small))

above_two : (low rest : ℕ) → rest < 2 ^ low → 2 ^ low + rest < 2 ^ (low + 1)
above_two low rest small = rw (add-one low) (omega (arith, double low, small))

-- the bits of places are set, and no other from `low` on
bits_found : (n low high rest next : ℕ) (xs : List ℕ) → low + n ≡ high → rest < 2 ^ low → AreBits next low high xs
    → map (place_of_bit next) (filter (has_bit (bits next xs + rest)) (range_with_len low n)) ≡ xs
bits_found zero low high rest next [] is small h = refl
bits_found zero low high rest next (x ∷ xs) is small h = absurd (omega (arith, h.0, h.1))
bits_found (suc n) low high rest next [] is small h =
    let clear : has_bit (bits next [] + rest) low ≡ false = ap (λ (t : ℕ). has_bit t low) (omega arith) ∙ bit_clear low rest 0 small in
    let more = bits_found n (low + 1) high rest next [] (omega arith) (above low rest small) tt in
    rw clear more
bits_found (suc n) low high rest next (x ∷ xs) is small h =
    elim (cases_lt low (bit_of next x)) [
      | inl later_bit ↦
          let later : AreBits next (low + 1) high (x ∷ xs) = (omega arith, h.1, h.2, h.3) in
          let part = multiple next (low + 1) high (x ∷ xs) later in
          let clear : has_bit (bits next (x ∷ xs) + rest) low ≡ false = ap (λ (t : ℕ). has_bit (t + rest) low) (part.1 ∙ ap (λ (k : ℕ). 2 ^ k * part.0) (add-one low)) ∙ bit_clear low rest part.0 small in
          rw clear (bits_found n (low + 1) high rest next (x ∷ xs) (omega arith) (above low rest small) later)
      | inr at_most ↦
          let here : bit_of next x ≡ low = omega (arith, h.0, at_most) in
          let later : AreBits next (low + 1) high xs = subst (λ (b : ℕ). AreBits next (b + 1) high xs) here h.3 in
          let part = multiple next (low + 1) high xs later in
          let first : bits next (x ∷ xs) ≡ 2 ^ low + bits next xs = sum_by-cons (λ (y : ℕ). 2 ^ bit_of next y) x xs ∙ ap (λ (b : ℕ). 2 ^ b + bits next xs) here in
          let sum : bits next (x ∷ xs) + rest ≡ bits next xs + (2 ^ low + rest) = omega (arith, first) in
          let whole : bits next (x ∷ xs) + rest ≡ 2 ^ suc low * part.0 + (2 ^ low + rest) = sum ∙ ap (λ (t : ℕ). t + (2 ^ low + rest)) (part.1 ∙ ap (λ (k : ℕ). 2 ^ k * part.0) (add-one low)) in
          let set : has_bit (bits next (x ∷ xs) + rest) low ≡ true = ap (λ (t : ℕ). has_bit t low) whole ∙ bit_set low rest part.0 small in
          let more = bits_found n (low + 1) high (2 ^ low + rest) next xs (omega arith) (above_two low rest small) later in
          rw set (
          ap (λ (place : ℕ). place ∷ map (place_of_bit next) (filter (has_bit (bits next (x ∷ xs) + rest)) (range_with_len (low + 1) n))) (ap (place_of_bit next) (sym here) ∙ h.2)
          ∙ ap (λ (t : ℕ). x ∷ map (place_of_bit next) (filter (has_bit t) (range_with_len (low + 1) n))) sum
          ∙ ap (λ (ys : List ℕ). x ∷ ys) more)
    ]

-- they stay below the power of the highest
bits_below : (n low high rest next : ℕ) (xs : List ℕ) → low + n ≡ high → rest < 2 ^ low → AreBits next low high xs → bits next xs + rest < 2 ^ high
bits_below zero low high rest next [] is small h =
    let same : low ≡ high = omega arith in
    let below : rest < 2 ^ high = subst (λ (k : ℕ). rest < 2 ^ k) same small in
    omega (arith, below)
bits_below zero low high rest next (x ∷ xs) is small h = absurd (omega (arith, h.0, h.1))
bits_below (suc n) low high rest next [] is small h = bits_below n (low + 1) high rest next [] (omega arith) (above low rest small) tt
bits_below (suc n) low high rest next (x ∷ xs) is small h =
    elim (cases_lt low (bit_of next x)) [
      | inl later_bit ↦ bits_below n (low + 1) high rest next (x ∷ xs) (omega arith) (above low rest small) (omega arith, h.1, h.2, h.3)
      | inr at_most ↦
          let here : bit_of next x ≡ low = omega (arith, h.0, at_most) in
          let first : bits next (x ∷ xs) ≡ 2 ^ low + bits next xs = sum_by-cons (λ (y : ℕ). 2 ^ bit_of next y) x xs ∙ ap (λ (b : ℕ). 2 ^ b + bits next xs) here in
          let later : AreBits next (low + 1) high xs = subst (λ (b : ℕ). AreBits next (b + 1) high xs) here h.3 in
          omega (arith, first, bits_below n (low + 1) high (2 ^ low + rest) next xs (omega arith) (above_two low rest small) later)
    ]

-- ---- the places that one odd entry names

-- places from an address on, each at least 8 bytes after the one before, even and below 2^47
abbrev pub AreFrom : ℕ → List ℕ → Type 0
AreFrom at [] = Unit {0}
AreFrom at (x ∷ xs) = (at ≤ x) × (x < 2 ^ 47) × (x % 2 ≡ 0) × AreFrom (x + PLACE_SIZE) xs

packable_rest : (x : ℕ) (xs : List ℕ) → ArePackable (x ∷ xs) → ArePackable xs
packable_rest x xs h = record {
  even = λ i lt. h.even (suc i) (omega arith);
  low = λ i lt. h.low (suc i) (omega arith);
  apart = λ i lt. let next : suc i + 1 ≡ suc (i + 1) = omega arith in rw next at (h.apart (suc i) (omega arith));
}

pub are_from : (at : ℕ) (xs : List ℕ) → (0 < length xs → at ≤ get_or xs 0 0) → ArePackable xs → AreFrom at xs
are_from at [] first h = tt
are_from at (x ∷ xs) first h =
    (first (omega arith), h.low 0 (omega arith), h.even 0 (omega arith), are_from (x + PLACE_SIZE) xs (λ lt. h.apart 0 (omega arith)) (packable_rest x xs h))

-- an odd entry can name a place: what that says
pub record IsNamed (next place : ℕ) : Type 0 where
  pub from : next ≤ place
  pub below : place < next + SPAN
  pub whole : (place - next) % PLACE_SIZE ≡ 0

pub is_named : (next place : ℕ) → can_name next place ≡ true → IsNamed next place
is_named next place h =
    let parts = and_parts (nat_le next place && nat_lt place (next + SPAN)) (eqb ((place - next) % PLACE_SIZE) 0) h in
    let order = and_parts (nat_le next place) (nat_lt place (next + SPAN)) parts.0 in
    record { from = leb-true next place order.0; below = ltb-true place (next + SPAN) order.1; whole = eqb-true ((place - next) % PLACE_SIZE) 0 parts.1 }

-- a place that can be named, by its bit
bit_place : (next place : ℕ) → IsNamed next place → place < 2 ^ 64 → place_of_bit next (bit_of next place) ≡ place
bit_place next place h small = omega (arith, h.from, h.whole)

named_bits : (next low at : ℕ) (xs : List ℕ) → next + PLACE_SIZE * low ≤ at + PLACE_SIZE → AreFrom at xs → AreBits next low (BITS + 1) (take_while (can_name next) xs)
named_bits next low at [] le h = tt
named_bits next low at (x ∷ xs) le h =
    rw (take_while-cons (can_name next) x xs) (elim (cases_Bool (can_name next x)) [
      | inl can ↦
          let named = is_named next x can in
          rw can (
            omega (arith, le, h.0, named.from),
            omega (arith, named.from, named.below),
            bit_place next x named (omega (arith, h.1)),
            named_bits next (bit_of next x + 1) (x + PLACE_SIZE) xs (omega (arith, named.from)) h.3,
          )
      | inr cannot ↦ rw cannot tt
    ])

-- it is a word
pub odd_entry_below : (next : ℕ) (xs : List ℕ) (at : ℕ) → next ≤ at → AreFrom at xs → odd_entry next (take_while (can_name next) xs) < 2 ^ 64
unfolding odd_entry
odd_entry_below next xs at le h =
    bits_below BITS 1 (BITS + 1) 1 next (take_while (can_name next) xs) (omega arith) (omega arith) (named_bits next 1 at xs (omega arith) h)

-- it is odd
odd_entry_odd : (next : ℕ) (xs : List ℕ) (at : ℕ) → next ≤ at → AreFrom at xs → is_even (odd_entry next (take_while (can_name next) xs)) ≡ false
unfolding odd_entry
odd_entry_odd next xs at le h =
    let part = multiple next 1 (BITS + 1) (take_while (can_name next) xs) (named_bits next 1 at xs (omega arith) h) in
    let odd : (bits next (take_while (can_name next) xs) + 1) % 2 ≡ 1 = omega (arith, part.1) in
    ap (λ (x : ℕ). eqb x 0) odd

-- it names them
odd_entry_names : (next : ℕ) (xs : List ℕ) (at : ℕ) → next ≤ at → AreFrom at xs → odd_places next (odd_entry next (take_while (can_name next) xs)) ≡ take_while (can_name next) xs
unfolding odd_entry odd_places place_bits
odd_entry_names next xs at le h =
    bits_found BITS 1 (BITS + 1) 1 next (take_while (can_name next) xs) (omega arith) (omega arith) (named_bits next 1 at xs (omega arith) h)

-- ---- all entries

-- so many places are named already
skipped : (next n : ℕ) (xs : List ℕ) → packed_from next n xs ≡ packed_from next 0 (drop n xs)
unfolding packed_from
skipped next zero xs = refl
skipped next (suc n) [] = refl
skipped next (suc n) (x ∷ xs) = skipped next n xs

word_first : (e : ℕ) (es : List ℕ) → e < 2 ^ 64 → AreWords es → AreWords (e ∷ es)
word_first e es small words zero lt = small
word_first e es small words (suc i) lt = words i (omega arith)

-- the first place is named by an odd entry, or has an even one
named_first : (next x : ℕ) (xs : List ℕ) → can_name next x ≡ true
    → packed_from next 0 (x ∷ xs) ≡ odd_entry next (take_while (can_name next) (x ∷ xs)) ∷ packed_from (next + SPAN) (named_count next xs) xs
unfolding packed_from
named_first next x xs can =
    cond-true (can_name next x) (odd_entry next (take_while (can_name next) (x ∷ xs)) ∷ packed_from (next + SPAN) (named_count next xs) xs) (x ∷ packed_from (x + PLACE_SIZE) 0 xs) can

own_first : (next x : ℕ) (xs : List ℕ) → can_name next x ≡ false → packed_from next 0 (x ∷ xs) ≡ x ∷ packed_from (x + PLACE_SIZE) 0 xs
unfolding packed_from
own_first next x xs cannot =
    cond-false (can_name next x) (odd_entry next (take_while (can_name next) (x ∷ xs)) ∷ packed_from (next + SPAN) (named_count next xs) xs) (x ∷ packed_from (x + PLACE_SIZE) 0 xs) cannot

are_words : (next n at : ℕ) (xs : List ℕ) → AreFrom at xs → AreWords (packed_from next n xs)
unfolding packed_from
are_words next n at [] h = λ i lt. absurd (omega arith)
are_words next (suc n) at (x ∷ xs) h = are_words next n (x + PLACE_SIZE) xs h.3
are_words next zero at (x ∷ xs) h = elim (cases_Bool (can_name next x)) [
  | inl can ↦
      let entry = odd_entry next (take_while (can_name next) (x ∷ xs)) in
      let rest = packed_from (next + SPAN) (named_count next xs) xs in
      let words : AreWords (entry ∷ rest) =
      word_first entry rest (odd_entry_below next (x ∷ xs) x (is_named next x can).from (omega arith, h.1, h.2, h.3)) (are_words (next + SPAN) (named_count next xs) (x + PLACE_SIZE) xs h.3) in
      subst AreWords (sym (named_first next x xs can)) words
  | inr cannot ↦
      let rest = packed_from (x + PLACE_SIZE) zero xs in
      let words : AreWords (x ∷ rest) = word_first x rest (omega (arith, h.1)) (are_words (x + PLACE_SIZE) zero (x + PLACE_SIZE) xs h.3) in
      subst AreWords (sym (own_first next x xs cannot)) words
]

-- what an odd entry names, and the places after them, are all
run_and_rest : (next x : ℕ) (xs : List ℕ) → can_name next x ≡ true → take_while (can_name next) (x ∷ xs) ++ drop (named_count next xs) xs ≡ x ∷ xs
run_and_rest next x xs can =
    rw (take_while-cons (can_name next) x xs) (rw can (ap (λ (ys : List ℕ). x ∷ ys) (take-append-drop (named_count next xs) xs)))

-- an odd entry first, an even entry first
odd_first : (next e : ℕ) (es : List ℕ) → is_even e ≡ false → places_from next (e ∷ es) ≡ odd_places next e ++ places_from (plus next SPAN) es
unfolding places_from entry_places following
odd_first next e es odd = rw odd refl

even_first : (next e : ℕ) (es : List ℕ) → is_even e ≡ true → places_from next (e ∷ es) ≡ e ∷ places_from (plus e PLACE_SIZE) es
unfolding places_from entry_places following
even_first next e es even = rw even refl

-- the places that the entries name are those that are not skipped
names_back : (next n at : ℕ) (xs : List ℕ) → next < 2 ^ 48 → AreFrom at xs → places_from next (packed_from next n xs) ≡ drop n xs
unfolding packed_from places_from
names_back next zero at [] low h = refl
names_back next (suc n) at [] low h = refl
names_back next (suc n) at (x ∷ xs) low h = names_back next n (x + PLACE_SIZE) xs low h.3
names_back next zero at (x ∷ xs) low h = elim (cases_Bool (can_name next x)) [
  | inl can ↦
      let named = is_named next x can in
      let here : AreFrom x (x ∷ xs) = (omega arith, h.1, h.2, h.3) in
      let run = take_while (can_name next) (x ∷ xs) in
      let rest = packed_from (next + SPAN) (named_count next xs) xs in
      let later : plus next SPAN ≡ next + SPAN = omega (arith, low) in
      ap (places_from next) (named_first next x xs can)
      ∙ odd_first next (odd_entry next run) rest (odd_entry_odd next (x ∷ xs) x named.from here)
      ∙ ap (λ (ys : List ℕ). ys ++ places_from (plus next SPAN) rest) (odd_entry_names next (x ∷ xs) x named.from here)
      ∙ ap (λ (k : ℕ). run ++ places_from k rest) later
      ∙ ap (λ (ys : List ℕ). run ++ ys) (names_back (next + SPAN) (named_count next xs) (x + PLACE_SIZE) xs (omega (arith, named.from, h.1)) h.3)
      ∙ run_and_rest next x xs can
  | inr cannot ↦
      let rest = packed_from (x + PLACE_SIZE) zero xs in
      let even : is_even x ≡ true = eq-eqb (x % 2) 0 h.2 in
      let later : plus x PLACE_SIZE ≡ x + PLACE_SIZE = omega (arith, h.1) in
      ap (places_from next) (own_first next x xs cannot)
      ∙ even_first next x rest even
      ∙ ap (λ (k : ℕ). x ∷ places_from k rest) later
      ∙ ap (λ (ys : List ℕ). x ∷ ys) (names_back (x + PLACE_SIZE) zero (x + PLACE_SIZE) xs (omega (arith, h.1)) h.3)
]

-- the entries for places are words, begin with an even one, and name the places
pub packed_words : (xs : List ℕ) → ArePackable xs → AreWords (packed_entries xs)
unfolding packed_entries
packed_words [] h = λ i lt. absurd (omega arith)
packed_words (x ∷ xs) h =
    let from : AreFrom x (x ∷ xs) = are_from x (x ∷ xs) (λ lt. omega arith) h in
    word_first x (packed_from (x + PLACE_SIZE) zero xs) (omega (arith, from.1)) (are_words (x + PLACE_SIZE) zero (x + PLACE_SIZE) xs from.3)

packed_begins : (xs : List ℕ) → ArePackable xs → begins_odd (packed_entries xs) ≡ false
unfolding packed_entries
packed_begins [] h = refl
packed_begins (x ∷ xs) h = rw (eq-eqb (x % 2) 0 (h.even 0 (omega arith))) refl

packed_names : (xs : List ℕ) → ArePackable xs → places_from 0 (packed_entries xs) ≡ xs
unfolding packed_entries places_from
packed_names [] h = refl
packed_names (x ∷ xs) h =
    let from : AreFrom x (x ∷ xs) = are_from x (x ∷ xs) (λ lt. omega arith) h in
    let rest = packed_from (x + PLACE_SIZE) zero xs in
    let later : plus x PLACE_SIZE ≡ x + PLACE_SIZE = omega (arith, from.1) in
    even_first 0 x rest (eq-eqb (x % 2) 0 from.2)
    ∙ ap (λ (k : ℕ). x ∷ places_from k rest) later
    ∙ ap (λ (ys : List ℕ). x ∷ ys) (names_back (x + PLACE_SIZE) zero (x + PLACE_SIZE) xs (omega (arith, from.1)) from.3)

-- the table of places gives the places
pub unpacked-packed : (xs : List ℕ) (most : ℕ) → ArePackable xs → length xs ≤ most → unpacked (packed xs) most ≡ Ok xs
unfolding packed places
unpacked-packed xs most h few =
    let es = packed_entries xs in
    let back : entries (table_of es) ≡ es = ap entries (sym (append-nil (table_of es))) ∙ entries-table_of es [] (packed_words xs h) (omega arith) in
    let whole : is_aligned (length (table_of es)) ENTRY_SIZE ≡ true = eq-eqb (length (table_of es) % ENTRY_SIZE) 0 (omega (arith, length-table_of es)) in
    let first : begins_odd (entries (table_of es)) ≡ false = ap begins_odd back ∙ packed_begins xs h in
    let names : places (table_of es) ≡ xs = ap (places_from 0) back ∙ packed_names xs h in
    all_good (table_of es) most whole first (omega (arith, ap length names, few)) ∙ ap (λ (ys : List ℕ). Ok ys) names

-- ---- the loop

abbrev so_far : List ℕ → ℕ → List ℕ → List ℕ
so_far table next xs = table ++ table_of (packed_from next 0 xs)

same_sum : (at count n : ℕ) → count ≡ 1 + n → at + 1 + n ≡ at + count
same_sum at count n is = omega (arith, is)

-- an odd entry more
pub odd_more : (table new whole : List ℕ) (next at count : ℕ) (places : List ℕ) (x : ℕ) → at < length places → x ≡ get_or places at x → can_name next x ≡ true → count ≡ named_count next (drop at places)
    → new ≡ table ++ bytes64 (odd_entry next (take count (drop at places))) → so_far table next (drop at places) ≡ whole → so_far new (next + SPAN) (drop (at + count) places) ≡ whole
unfolding table_of
odd_more table new whole next at count places x lt is can named step done =
    let rest = drop (at + 1) places in
    let here : drop at places ≡ x ∷ rest = at_drop_more (λ (ys : List ℕ). ys) places at x lt ∙ ap (λ (y : ℕ). y ∷ rest) (sym is) in
    let entry = odd_entry next (take count (drop at places)) in
    let more : count ≡ 1 + named_count next rest = named ∙ ap (named_count next) here ∙ cond-true (can_name next x) (1 + named_count next rest) 0 can in
    let left : drop (named_count next rest) rest ≡ drop (at + count) places = drop-drop (named_count next rest) (at + 1) places ∙ ap (λ (k : ℕ). drop k places) (same_sum at count (named_count next rest) more) in
    let one : packed_from next 0 (drop at places) ≡ entry ∷ packed_from (next + SPAN) 0 (drop (at + count) places) =
    ap (packed_from next 0) here
    ∙ named_first next x rest can
    ∙ ap (λ (ys : List ℕ). odd_entry next (take_while (can_name next) ys) ∷ packed_from (next + SPAN) (named_count next rest) rest) (sym here)
    ∙ ap (λ (k : ℕ). odd_entry next (take k (drop at places)) ∷ packed_from (next + SPAN) (named_count next rest) rest) (sym named)
    ∙ ap (λ (ys : List ℕ). entry ∷ ys) (skipped (next + SPAN) (named_count next rest) rest ∙ ap (packed_from (next + SPAN) 0) left) in
    ap (λ (ys : List ℕ). ys ++ table_of (packed_from (next + SPAN) 0 (drop (at + count) places))) step
    ∙ append_assoc table (bytes64 entry) (table_of (packed_from (next + SPAN) 0 (drop (at + count) places)))
    ∙ ap (λ (ys : List ℕ). table ++ table_of ys) (sym one)
    ∙ done

-- an even entry more
pub even_more : (table new whole : List ℕ) (next at : ℕ) (places : List ℕ) (x : ℕ) → at < length places → x ≡ get_or places at x → can_name next x ≡ false
    → new ≡ table ++ bytes64 x → so_far table next (drop at places) ≡ whole → so_far new (x + PLACE_SIZE) (drop (at + 1) places) ≡ whole
unfolding table_of
even_more table new whole next at places x lt is cannot step done =
    let rest = drop (at + 1) places in
    let here : drop at places ≡ x ∷ rest = at_drop_more (λ (ys : List ℕ). ys) places at x lt ∙ ap (λ (y : ℕ). y ∷ rest) (sym is) in
    let one : packed_from next 0 (drop at places) ≡ x ∷ packed_from (x + PLACE_SIZE) 0 rest = ap (packed_from next 0) here ∙ own_first next x rest cannot in
    ap (λ (ys : List ℕ). ys ++ table_of (packed_from (x + PLACE_SIZE) 0 rest)) step
    ∙ append_assoc table (bytes64 x) (table_of (packed_from (x + PLACE_SIZE) 0 rest))
    ∙ ap (λ (ys : List ℕ). table ++ table_of ys) (sym one)
    ∙ done

-- no place is left
pub none_left : (table whole : List ℕ) (next at : ℕ) (places : List ℕ) → length places ≤ at → so_far table next (drop at places) ≡ whole → table ≡ whole
unfolding table_of packed_from
none_left table whole next at places le done =
    sym (append-nil table) ∙ sym (ap (λ (ys : List ℕ). so_far table next ys) (drop_all at places le)) ∙ done

-- the rest of places can be packed
pub rest_packable : (xs : List ℕ) (at : ℕ) → ArePackable xs → ArePackable (drop at xs)
rest_packable xs at h = record {
  even = λ i lt. rw (get_or-drop at xs i 0) (h.even (at + i) (omega (arith, length-drop at xs)));
  low = λ i lt. rw (get_or-drop at xs i 0) (h.low (at + i) (omega (arith, length-drop at xs)));
  apart = λ i lt.
      let next : at + (i + 1) ≡ at + i + 1 = omega arith in
      rw (get_or-drop at xs i 0, get_or-drop at xs (i + 1) 0, next) (h.apart (at + i) (omega (arith, length-drop at xs)));
}

-- the entry that names the first of the places left is a word
pub run_below : (next at x : ℕ) (xs : List ℕ) → ArePackable xs → at < length xs → x ≡ get_or xs at 0 → can_name next x ≡ true → odd_entry next (take_while (can_name next) (drop at xs)) < 2 ^ 64
run_below next at x xs h lt is can =
    let named = is_named next x can in
    let first : get_or (drop at xs) 0 0 ≡ x = get_or-drop at xs 0 0 ∙ ap (λ (k : ℕ). get_or xs k 0) (add-zero at) ∙ sym is in
    odd_entry_below next (drop at xs) x named.from (are_from x (drop at xs) (λ some. omega (arith, first)) (rest_packable xs at h))

first_packed : (x : ℕ) (xs : List ℕ) → bytes64 x ++ table_of (packed_from (x + PLACE_SIZE) 0 xs) ≡ packed (x ∷ xs)
unfolding packed packed_entries table_of
first_packed x xs = refl

-- the first place, and the rest of them
pub first_and_rest : (table new all xs : List ℕ) → 0 < length xs → table ≡ [] → new ≡ table ++ bytes64 (get_or xs 0 0)
    → all ≡ new ++ table_of (packed_from (get_or xs 0 0 + PLACE_SIZE) 0 (take (length xs - 1) (drop 1 xs))) → all ≡ packed xs
first_and_rest table new all [] some none first rest = absurd (omega arith)
first_and_rest table new all (x ∷ xs) some none first rest =
    let left : take (length (x ∷ xs) - 1) xs ≡ xs = take_all (length (x ∷ xs) - 1) xs (omega arith) in
    rest
    ∙ ap (λ (ys : List ℕ). ys ++ table_of (packed_from (x + PLACE_SIZE) 0 (take (length (x ∷ xs) - 1) xs))) (first ∙ ap (λ (ys : List ℕ). ys ++ bytes64 x) none)
    ∙ ap (λ (ys : List ℕ). bytes64 x ++ table_of (packed_from (x + PLACE_SIZE) 0 ys)) left
    ∙ first_packed x xs

pub none_packed : (table xs : List ℕ) → length xs ≡ 0 → table ≡ [] → table ≡ packed xs
unfolding packed packed_entries table_of
none_packed table [] none is = is
none_packed table (x ∷ xs) none is = absurd (omega arith)

-- ---- the test

follows_from : (next x : ℕ) → follows next x ≡ true → (next ≤ x) × (x < 2 ^ 47) × (x % 2 ≡ 0)
follows_from next x h =
    let parts = and_parts (nat_le next x && nat_lt x PLACES_END) (eqb (x % 2) 0) h in
    let order = and_parts (nat_le next x) (nat_lt x PLACES_END) parts.0 in
    (leb-true next x order.0, ltb-true x PLACES_END order.1, eqb-true (x % 2) 0 parts.1)

from_test : (next : ℕ) (xs : List ℕ) → is_packable_from next xs ≡ true → AreFrom next xs
unfolding is_packable_from
from_test next [] h = tt
from_test next (x ∷ xs) h =
    let parts = and_parts (follows next x) (is_packable_from (x + PLACE_SIZE) xs) h in
    let first = follows_from next x parts.0 in
    (first.0, first.1, first.2, from_test (x + PLACE_SIZE) xs parts.1)

one_more : (next x : ℕ) (xs : List ℕ) → AreFrom next (x ∷ xs) → ArePackable xs → ArePackable (x ∷ xs)
one_more next x xs h rest = record {
  even = evens x xs h rest;
  low = lows x xs h rest;
  apart = aparts x xs h rest;
}
  where
    evens : (x : ℕ) (xs : List ℕ) → AreFrom next (x ∷ xs) → ArePackable xs → (i : ℕ) → i < length (x ∷ xs) → get_or (x ∷ xs) i 0 % 2 ≡ 0
    evens x xs h rest zero lt = h.2
    evens x xs h rest (suc i) lt = rest.even i (omega arith)

    lows : (x : ℕ) (xs : List ℕ) → AreFrom next (x ∷ xs) → ArePackable xs → (i : ℕ) → i < length (x ∷ xs) → get_or (x ∷ xs) i 0 < PLACES_END
    lows x xs h rest zero lt = h.1
    lows x xs h rest (suc i) lt = rest.low i (omega arith)

    aparts : (x : ℕ) (xs : List ℕ) → AreFrom next (x ∷ xs) → ArePackable xs → (i : ℕ) → i + 1 < length (x ∷ xs) → get_or (x ∷ xs) i 0 + PLACE_SIZE ≤ get_or (x ∷ xs) (i + 1) 0
    aparts x [] h rest i lt = absurd (omega arith)
    aparts x (y ∷ ys) h rest zero lt = h.3.0
    aparts x (y ∷ ys) h rest (suc i) lt = let next : suc i + 1 ≡ suc (i + 1) = omega arith in rw next (rest.apart i (omega arith))

packable_from : (next : ℕ) (xs : List ℕ) → AreFrom next xs → ArePackable xs
packable_from next [] h = record { even = λ i lt. absurd (omega arith); low = λ i lt. absurd (omega arith); apart = λ i lt. absurd (omega arith) }
packable_from next (x ∷ xs) h = one_more next x xs h (packable_from (x + PLACE_SIZE) xs h.3)

-- places that pass can be packed
pub are_packable : (xs : List ℕ) → is_packable xs ≡ true → ArePackable xs
unfolding is_packable
are_packable xs h = packable_from 0 xs (from_test 0 xs h)

-- the loop of the test
pub tested_more : (next i x : ℕ) (xs : List ℕ) (whole : Bool) → i < length xs → x ≡ get_or xs i x → follows next x ≡ true → is_packable_from next (drop i xs) ≡ whole → is_packable_from (x + PLACE_SIZE) (drop (i + 1) xs) ≡ whole
unfolding is_packable_from
tested_more next i x xs whole lt is passes so_far =
    let rest = drop (i + 1) xs in
    let one : is_packable_from next (drop i xs) ≡ is_packable_from (x + PLACE_SIZE) rest =
    at_drop_more (is_packable_from next) xs i x lt ∙ ap (λ (y : ℕ). follows next y && is_packable_from (y + PLACE_SIZE) rest) (sym is) ∙ rw passes refl in
    sym one ∙ so_far

pub tested_stops : (next i x : ℕ) (xs : List ℕ) (whole : Bool) → i < length xs → x ≡ get_or xs i x → follows next x ≡ false → is_packable_from next (drop i xs) ≡ whole → false ≡ whole
unfolding is_packable_from
tested_stops next i x xs whole lt is fails so_far =
    let rest = drop (i + 1) xs in
    let one : is_packable_from next (drop i xs) ≡ false =
    at_drop_more (is_packable_from next) xs i x lt ∙ ap (λ (y : ℕ). follows next y && is_packable_from (y + PLACE_SIZE) rest) (sym is) ∙ rw fails refl in
    sym one ∙ so_far

pub tested_all : (next i : ℕ) (xs : List ℕ) (whole : Bool) → length xs ≤ i → is_packable_from next (drop i xs) ≡ whole → true ≡ whole
unfolding is_packable_from
tested_all next i xs whole le so_far = sym (at_drop_all (is_packable_from next) xs i le) ∙ so_far
