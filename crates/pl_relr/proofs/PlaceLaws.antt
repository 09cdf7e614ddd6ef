-- Loops over entries and over bits.
use Rattle.std.proofs.Common.{◌≡◌, ℕ, ◌+◌, ◌-◌, ◌<◌, ◌≤◌, List, [], ◌∷◌, ◌++◌, length, drop, map, refl, sym, ap, ◌∙◌, append_assoc, arith, length-append, Bool, true, false, Ok, Err, inl, inr}
use Rattle.std.specs.List.{range_with_len, filter}
use Rattle.std.proofs.lemmas.List.{append-nil, at_drop_more, at_drop_all}
use Rattle.std.proofs.lemmas.List.FromFn.{length-range_with_len, get_or-range_with_len}
use Rattle.pl_relr.specs.Entries.{entry, entry_count, entries}
use Rattle.pl_relr.specs.declared.entries.TheConstants.{BITS, ENTRY_SIZE}
use Rattle.pl_relr.specs.declared.fault.RelrFault.TheVariants.{Packed}
use Rattle.pl_base.specs.Sums.{is_aligned}
use Rattle.std.proofs.lemmas.Bool.{cases_Bool, lt-ltb, le-ltb}
use Rattle.pl_relr.specs.Places.{place_bits, entry_places, following, places_from, places, begins_odd, unpacked}
use Rattle.pl_relr.proofs.EntryLaws.{length-entries, get_or-entries}

-- ---- what the rows of a list that pass give; j is the index after i, and x the row at i

pub passing_more : {A X : Type 0} (f : A → X) (p : A → Bool) (out whole : List X) (xs : List A) (i j : ℕ) (x : A) → drop i xs ≡ x ∷ drop j xs → p x ≡ true
    → out ++ map f (filter p (drop i xs)) ≡ whole → (out ++ f x ∷ []) ++ map f (filter p (drop j xs)) ≡ whole
passing_more {A = A} {X = X} f p out whole xs i j x is passes so_far =
    let rest = filter p (drop j xs) in
    let one : map f (filter p (drop i xs)) ≡ f x ∷ map f rest = ap (λ (ys : List A). map f (filter p ys)) is ∙ rw passes refl in
    append_assoc out (f x ∷ []) (map f rest) ∙ sym (ap (λ (ys : List X). out ++ ys) one) ∙ so_far

pub passing_less : {A X : Type 0} (f : A → X) (p : A → Bool) (out whole : List X) (xs : List A) (i j : ℕ) (x : A) → drop i xs ≡ x ∷ drop j xs → p x ≡ false
    → out ++ map f (filter p (drop i xs)) ≡ whole → out ++ map f (filter p (drop j xs)) ≡ whole
passing_less {A = A} {X = X} f p out whole xs i j x is misses so_far =
    let one : map f (filter p (drop i xs)) ≡ map f (filter p (drop j xs)) = ap (λ (ys : List A). map f (filter p ys)) is ∙ rw misses refl in
    sym (ap (λ (ys : List X). out ++ ys) one) ∙ so_far

pub passing_done : {A X : Type 0} (f : A → X) (p : A → Bool) (out whole : List X) (xs : List A) (i : ℕ) → length xs ≤ i
    → out ++ map f (filter p (drop i xs)) ≡ whole → out ≡ whole
passing_done {A = A} {X = X} f p out whole xs i le so_far =
    sym (append-nil out) ∙ sym (ap (λ (ys : List X). out ++ ys) (at_drop_all (λ (ys : List A). map f (filter p ys)) xs i le)) ∙ so_far

-- ---- the bits of an odd entry

drop-range : (from n i : ℕ) → i < n → drop i (range_with_len from n) ≡ (from + i) ∷ drop (i + 1) (range_with_len from n)
drop-range from n i lt =
    at_drop_more (λ (xs : List ℕ). xs) (range_with_len from n) i (from + i) (omega (arith, length-range_with_len from n))
    ∙ ap (λ (x : ℕ). x ∷ drop (i + 1) (range_with_len from n)) (get_or-range_with_len from n i (from + i) lt)

pub next_bit : (bit : ℕ) → 1 ≤ bit → bit < BITS + 1 → drop (bit - 1) place_bits ≡ bit ∷ drop (bit + 1 - 1) place_bits
unfolding place_bits
next_bit bit le lt =
    let same : 1 + (bit - 1) ≡ bit = omega arith in
    let next : bit - 1 + 1 ≡ bit + 1 - 1 = omega arith in
    drop-range 1 BITS (bit - 1) (omega arith)
    ∙ ap (λ (k : ℕ). k ∷ drop (bit - 1 + 1) (range_with_len 1 BITS)) same
    ∙ ap (λ (k : ℕ). bit ∷ drop k (range_with_len 1 BITS)) next

pub length-place_bits : length place_bits ≡ BITS
unfolding place_bits
length-place_bits = length-range_with_len 1 BITS

-- ---- the places of entries, one entry after the other

pub places_more : (table out new whole : List ℕ) (next i e : ℕ) → i < entry_count table → e ≡ entry table i → new ≡ out ++ entry_places next e
    → out ++ places_from next (drop i (entries table)) ≡ whole → new ++ places_from (following next e) (drop (i + 1) (entries table)) ≡ whole
unfolding places_from
places_more table out new whole next i e lt is step so_far =
    let rest = drop (i + 1) (entries table) in
    let one : places_from next (drop i (entries table)) ≡ entry_places next e ++ places_from (following next e) rest =
    at_drop_more (places_from next) (entries table) i e (omega (arith, lt, length-entries table))
    ∙ ap (λ (x : ℕ). entry_places next x ++ places_from (following next x) rest) (get_or-entries table i e lt ∙ sym is) in
    ap (λ (xs : List ℕ). xs ++ places_from (following next e) rest) step
    ∙ append_assoc out (entry_places next e) (places_from (following next e) rest)
    ∙ sym (ap (λ (xs : List ℕ). out ++ xs) one)
    ∙ so_far

pub places_done : (table out whole : List ℕ) (next i : ℕ) → entry_count table ≤ i → out ++ places_from next (drop i (entries table)) ≡ whole → out ≡ whole
unfolding places_from
places_done table out whole next i le so_far =
    sym (append-nil out) ∙ sym (ap (λ (xs : List ℕ). out ++ xs) (at_drop_all (places_from next) (entries table) i (omega (arith, le, length-entries table)))) ∙ so_far

-- ---- the answers

pub bad_size : (table : List ℕ) (most : ℕ) → is_aligned (length table) ENTRY_SIZE ≡ false → unpacked table most ≡ Err Packed
unfolding unpacked
bad_size table most h = rw h refl

pub bad_start : (table : List ℕ) (most : ℕ) → begins_odd (entries table) ≡ true → unpacked table most ≡ Err Packed
unfolding unpacked
bad_start table most h = elim (cases_Bool (is_aligned (length table) ENTRY_SIZE)) [
  | inl whole ↦ rw whole (rw h refl)
  | inr broken ↦ bad_size table most broken
]

pub too_many : (table : List ℕ) (most : ℕ) → most < length (places table) → unpacked table most ≡ Err Packed
unfolding unpacked
too_many table most more = elim (cases_Bool (is_aligned (length table) ENTRY_SIZE)) [
  | inl whole ↦ elim (cases_Bool (begins_odd (entries table))) [
    | inl odd ↦ bad_start table most odd
    | inr even ↦ rw whole (rw even (rw (lt-ltb most (length (places table)) more) refl))
  ]
  | inr broken ↦ bad_size table most broken
]

-- more places are there already than are allowed
pub too_many_so_far : (table out new : List ℕ) (most next i e : ℕ) → i < entry_count table → e ≡ entry table i → new ≡ out ++ entry_places next e
    → out ++ places_from next (drop i (entries table)) ≡ places table → most < length new → unpacked table most ≡ Err Packed
too_many_so_far table out new most next i e lt is step so_far more =
    let all = places_more table out new (places table) next i e lt is step so_far in
    too_many table most (omega (arith, more, ap length all, length-append new (places_from (following next e) (drop (i + 1) (entries table)))))

pub all_good : (table : List ℕ) (most : ℕ) → is_aligned (length table) ENTRY_SIZE ≡ true → begins_odd (entries table) ≡ false → length (places table) ≤ most → unpacked table most ≡ Ok (places table)
unfolding unpacked
all_good table most whole even few = rw whole (rw even (rw (le-ltb most (length (places table)) few) refl))
