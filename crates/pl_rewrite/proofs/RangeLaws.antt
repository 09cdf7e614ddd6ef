-- Ranges that are near a word, and ranges with the same addresses.
use Rattle.std.proofs.Common.{◌≡◌, ℕ, ◌+◌, ◌<◌, ◌≤◌, max, Bool, true, false, List, [], ◌∷◌, refl, sym, ◌∙◌, arith, inl, inr}
use Rattle.std.specs.Prelude.{◌&&◌, ◌||◌, nat_le, nat_lt}
use Rattle.std.specs.List.{list_any}
use Rattle.std.proofs.lemmas.Bool.{and_from, and_parts, cases_Bool, false≢true, le-leb, leb-true, lt-ltb, ltb-true, or_left, or_right}
use Rattle.pl_elf.specs.Ranges.{has}
use Rattle.pl_elf.specs.declared.range.Range.{Range}
use Rattle.pl_rewrite.specs.Ranges.{is_near, touches}

or_second : (a b : Bool) → a ≡ false → (a || b) ≡ true → b ≡ true
or_second true b miss hit = absurd (false≢true (sym miss))
or_second false b miss hit = hit

same_answers : (a b : Bool) → (a ≡ true → b ≡ true) → (b ≡ true → a ≡ true) → a ≡ b
same_answers true b there back = sym (there refl)
same_answers false true there back = back refl
same_answers false false there back = refl

-- ---- addresses in a word

-- an address of one of the ranges, in the word from one on
record HasNear (start : ℕ) (rs : List Range) : Type 0 where
  address : ℕ
  low : start ≤ address
  high : address < start + 8
  hit : list_any (has address) rs ≡ true

first_near : (start : ℕ) (r : Range) (rs : List Range) → touches start r ≡ true → HasNear start (r ∷ rs)
first_near start r rs hit =
    let all = and_parts (nat_lt r.start r.end && nat_lt start r.end) (nat_lt r.start (start + 8)) hit in
    let ends = and_parts (nat_lt r.start r.end) (nat_lt start r.end) all.0 in
    let some : r.start < r.end = ltb-true r.start r.end ends.0 in
    let after : start < r.end = ltb-true start r.end ends.1 in
    let before : r.start < start + 8 = ltb-true r.start (start + 8) all.1 in
    let from : nat_le r.start (max start r.start) ≡ true = le-leb r.start (max start r.start) (omega arith) in
    let to : nat_lt (max start r.start) r.end ≡ true = lt-ltb (max start r.start) r.end (omega (arith, some, after)) in
    record {
      address = max start r.start;
      low = omega arith;
      high = omega (arith, before);
      hit = or_left (has (max start r.start) r) (list_any (has (max start r.start)) rs) (and_from (nat_le r.start (max start r.start)) (nat_lt (max start r.start) r.end) from to);
    }

later_near : (start : ℕ) (r : Range) (rs : List Range) → HasNear start rs → HasNear start (r ∷ rs)
later_near start r rs n = record { address = n.address; low = n.low; high = n.high; hit = or_right (has n.address r) (list_any (has n.address) rs) n.hit }

has_near : (start : ℕ) (rs : List Range) → is_near rs start ≡ true → HasNear start rs
has_near start [] hit = absurd (false≢true hit)
has_near start (r ∷ rs) hit = elim (cases_Bool (touches start r)) [
  | inl here ↦ first_near start r rs here
  | inr miss ↦ later_near start r rs (has_near start rs (or_second (touches start r) (list_any (touches start) rs) miss hit))
]

-- a range with an address in the word
range_touches : (start a : ℕ) (r : Range) → start ≤ a → a < start + 8 → has a r ≡ true → touches start r ≡ true
range_touches start a r low high hit =
    let both = and_parts (nat_le r.start a) (nat_lt a r.end) hit in
    let after : r.start ≤ a = leb-true r.start a both.0 in
    let before : a < r.end = ltb-true a r.end both.1 in
    let some : nat_lt r.start r.end ≡ true = lt-ltb r.start r.end (omega (arith, after, before)) in
    let ends : nat_lt start r.end ≡ true = lt-ltb start r.end (omega (arith, low, before)) in
    let begins : nat_lt r.start (start + 8) ≡ true = lt-ltb r.start (start + 8) (omega (arith, high, after)) in
    and_from (nat_lt r.start r.end && nat_lt start r.end) (nat_lt r.start (start + 8)) (and_from (nat_lt r.start r.end) (nat_lt start r.end) some ends) begins

near_by : (start a : ℕ) (rs : List Range) → start ≤ a → a < start + 8 → list_any (has a) rs ≡ true → is_near rs start ≡ true
near_by start a [] low high hit = hit
near_by start a (r ∷ rs) low high hit = elim (cases_Bool (has a r)) [
  | inl here ↦ or_left (touches start r) (list_any (touches start) rs) (range_touches start a r low high here)
  | inr miss ↦ or_right (touches start r) (list_any (touches start) rs) (near_by start a rs low high (or_second (has a r) (list_any (has a) rs) miss hit))
]

near_in : (start : ℕ) (rs qs : List Range) → ((a : ℕ) → start ≤ a → a < start + 8 → list_any (has a) rs ≡ list_any (has a) qs) → is_near rs start ≡ true → is_near qs start ≡ true
near_in start rs qs same hit =
    let n = has_near start rs hit in
    near_by start n.address qs n.low n.high (sym (same n.address n.low n.high) ∙ n.hit)

-- ranges that have the same addresses of a word are near it alike
pub same_near : (start : ℕ) (rs qs : List Range) → ((a : ℕ) → start ≤ a → a < start + 8 → list_any (has a) rs ≡ list_any (has a) qs) → is_near rs start ≡ is_near qs start
same_near start rs qs same = same_answers (is_near rs start) (is_near qs start) (near_in start rs qs same) (near_in start qs rs (λ a low high. sym (same a low high)))
