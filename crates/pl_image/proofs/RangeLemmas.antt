-- Ranges that rise, and ranges that are made so.
use Rattle.std.proofs.Common.{◌≡◌, ℕ, zero, suc, ◌+◌, ◌-◌, ◌<◌, ◌≤◌, max, Bool, true, false, not, List, [], ◌∷◌, length, get_or, take, drop, refl, sym, ap, ◌∙◌, arith, inl, inr}
use Rattle.std.specs.Prelude.{◌&&◌, ◌||◌, nat_le, nat_lt}
use Rattle.std.specs.List.{All, AllWithin, list_any}
use Rattle.std.specs.List.Sorted.{IsNonDecreasingBy, IsPartitionedBy, IsPartitionPoint, IsPermutation}
use Rattle.std.proofs.lemmas.Bool.{and_parts, cases_Bool, cases_lt, cases_order, false≢true}
use Rattle.std.proofs.lemmas.Bool.Decides.{nat_tests}
use Rattle.std.proofs.Math.Bool.{and-false, or-false}
use Rattle.std.proofs.lemmas.List.{get_or_default, length-take, length-drop, get_or-take, get_or-drop, take-append-drop}
use Rattle.std.proofs.lemmas.List.Folds.{list_any-append, list_any_none, list_any_at}
use Rattle.std.proofs.lemmas.List.Sorted.{list_any-IsPermutation, IsPartitionedBy-leb, IsPartitionedBy-ltb, IsNonDecreasingBy-drop}
use Rattle.pl_elf.specs.declared.range.Range.{Range}
use Rattle.pl_elf.specs.Ranges.{has}
use Rattle.pl_image.specs.Index.{rises, merged}
use Rattle.pl_image.proofs.FindLemmas.{any_lone}

-- ---- ranges that rise

record Rises (from : ℕ) (r : Range) (rs : List Range) : Type 0 where
  later : from ≤ r.start
  whole : r.start ≤ r.end
  rest : rises r.end rs ≡ true

rises_parts : (from : ℕ) (r : Range) (rs : List Range) → rises from (r ∷ rs) ≡ true → Rises from r rs
unfolding rises
rises_parts from r rs h =
    let all = and_parts (nat_le from r.start && nat_le r.start r.end) (rises r.end rs) h in
    let front = and_parts (nat_le from r.start) (nat_le r.start r.end) all.0 in
    record { later = grind (arith, nat_tests, front.0); whole = grind (arith, nat_tests, front.1); rest = all.1 }

start_later : (from : ℕ) (rs : List Range) (i : ℕ) (d : Range) → rises from rs ≡ true → i < length rs → from ≤ (get_or rs i d).start
start_later from [] i d h lt = absurd (omega arith)
start_later from (r ∷ rs) zero d h lt = (rises_parts from r rs h).later
start_later from (r ∷ rs) (suc i) d h lt =
    let f = rises_parts from r rs h in
    let later = f.later in
    let whole = f.whole in
    let next = start_later r.end rs i d f.rest (omega arith) in
    omega arith

ends_before : (from : ℕ) (rs : List Range) (i j : ℕ) (d : Range) → rises from rs ≡ true → i < j → j < length rs → ((get_or rs i d).start ≤ (get_or rs j d).start) × ((get_or rs i d).end ≤ (get_or rs j d).start)
ends_before from [] i j d h lt within = absurd (omega arith)
ends_before from (r ∷ rs) i zero d h lt within = absurd (omega arith)
ends_before from (r ∷ rs) zero (suc j) d h lt within =
    let f = rises_parts from r rs h in
    let whole = f.whole in
    let next = start_later r.end rs j d f.rest (omega arith) in
    (omega arith, next)
ends_before from (r ∷ rs) (suc i) (suc j) d h lt within = ends_before r.end rs i j d (rises_parts from r rs h).rest (omega arith) (omega arith)

whole_range : (from : ℕ) (rs : List Range) (i : ℕ) (d : Range) → rises from rs ≡ true → i < length rs → (get_or rs i d).start ≤ (get_or rs i d).end
whole_range from [] i d h lt = absurd (omega arith)
whole_range from (r ∷ rs) zero d h lt = (rises_parts from r rs h).whole
whole_range from (r ∷ rs) (suc i) d h lt = whole_range r.end rs i d (rises_parts from r rs h).rest (omega arith)

-- the ranges that begin at or before an address are the first ones
pub begun_first : (rs : List Range) (a : ℕ) → rises 0 rs ≡ true → IsPartitionedBy (λ r. nat_le r.start a) rs
begun_first rs a h = λ i j d le within hit. elim (cases_order i j) [
  | inl same ↦ rw same hit
  | inr other ↦ elim other [
    | inl less ↦ let before = (ends_before 0 rs i j d h less within).0 in grind (arith, nat_tests)
    | inr more ↦ absurd (omega arith)
  ]
]

module _ (rs : List Range) (a i : ℕ) (h : rises 0 rs ≡ true) (point : IsPartitionPoint (λ r. nat_le r.start a ≡ true) (λ r. nat_le r.start a ≡ false) rs i) where
  later_miss : (k : ℕ) (d : Range) → i ≤ k → k < length rs → has a (get_or rs k d) ≡ false
  later_miss k d le within = let after = point.1 k d le within in grind (arith, nat_tests)

  pub none_has : i ≡ 0 → list_any (has a) rs ≡ false
  none_has is = list_any_none (has a) rs (λ k d within. later_miss k d (omega arith) within)

  pub last_has : (e : Range) → 0 < i → i ≤ length rs → list_any (has a) rs ≡ nat_lt a (get_or rs (i - 1) e).end
  last_has e some le =
      let begun : nat_le (get_or rs (i - 1) e).start a ≡ true = point.0 (i - 1) e (omega arith) (omega arith) in
      any_lone (has a) rs (i - 1) e (omega arith)
      (λ k d less.
      let before = (ends_before 0 rs k (i - 1) d h less (omega arith)).1 in
      let here = point.0 (i - 1) d (omega arith) (omega arith) in
      grind (arith, nat_tests))
      (λ k d more within. later_miss k d (omega arith) within)
      ∙ rw begun refl

  pub last_inside : (e : Range) (b : ℕ) → 0 < i → i ≤ length rs → a ≤ b → b < (get_or rs (i - 1) e).end → list_any (has b) rs ≡ true
  last_inside e b some le low high =
      let begun : nat_le (get_or rs (i - 1) e).start a ≡ true = point.0 (i - 1) e (omega arith) (omega arith) in
      let here : has b (get_or rs (i - 1) e) ≡ true = grind (arith, nat_tests) in
      list_any_at (has b) rs (i - 1) e (omega arith) here

-- ---- ranges near addresses

starts_rise : (rs : List Range) → rises 0 rs ≡ true → IsNonDecreasingBy (λ r. r.start) rs
starts_rise rs h = λ i j d le within. elim (cases_order i j) [
  | inl same ↦ rw same (omega arith)
  | inr other ↦ elim other [
    | inl less ↦ let before = (ends_before 0 rs i j d h less within).0 in omega arith
    | inr more ↦ absurd (omega arith)
  ]
]

ends_rise : (rs : List Range) → rises 0 rs ≡ true → IsNonDecreasingBy (λ r. r.end) rs
ends_rise rs h = λ i j d le within. elim (cases_order i j) [
  | inl same ↦ rw same (omega arith)
  | inr other ↦ elim other [
    | inl less ↦
        let before = (ends_before 0 rs i j d h less within).1 in
        let whole = whole_range 0 rs j d h within in
        omega arith
    | inr more ↦ absurd (omega arith)
  ]
]

-- the ranges that end at or before an address are the first ones
pub ended_first : (rs : List Range) (from : ℕ) → rises 0 rs ≡ true → IsPartitionedBy (λ r. nat_le r.end from) rs
ended_first rs from h = IsPartitionedBy-leb (λ r. r.end) rs from (ends_rise rs h)

-- of the others those that start before an address are the first ones
pub started_first : (rs : List Range) (i limit : ℕ) → rises 0 rs ≡ true → IsPartitionedBy (λ r. nat_lt r.start limit) (drop i rs)
started_first rs i limit h = IsPartitionedBy-ltb (λ r. r.start) (drop i rs) limit (IsNonDecreasingBy-drop (λ r. r.start) i rs (starts_rise rs h))

pub near_has : (rs rest near : List Range) (from size i j a : ℕ) → rest ≡ drop i rs → near ≡ take j rest → from ≤ a → a < from + size
    → IsPartitionPoint (λ r. nat_le r.end from ≡ true) (λ r. nat_le r.end from ≡ false) rs i
    → IsPartitionPoint (λ r. nat_lt r.start (from + size) ≡ true) (λ r. nat_lt r.start (from + size) ≡ false) rest j
    → list_any (has a) near ≡ list_any (has a) rs
near_has rs rest near from size i j a rest_is near_is low high first last =
    let front : list_any (has a) (take i rs) ≡ false = list_any_none (has a) (take i rs) (λ k d lt.
    let less : k < i = omega (arith, lt, length-take i rs) in
    let ended = first.0 k d (omega arith) less in
    rw (get_or-take i rs k d less) (let out : has a (get_or rs k d) ≡ false = grind (arith, nat_tests) in out)) in
    let back : list_any (has a) (drop j rest) ≡ false = list_any_none (has a) (drop j rest) (λ k d lt.
    let within : j + k < length rest = omega (arith, lt, length-drop j rest) in
    let late = last.1 (j + k) d (omega arith) within in
    rw (get_or-drop j rest k d) (let out : has a (get_or rest (j + k) d) ≡ false = grind (arith, nat_tests) in out)) in
    let rest_has : list_any (has a) rest ≡ list_any (has a) near =
    ap (list_any (has a)) (sym (take-append-drop j rest)) ∙ list_any-append (has a) (take j rest) (drop j rest) ∙ rw back (or-false (list_any (has a) (take j rest))) ∙ ap (list_any (has a)) (sym near_is) in
    let all_has : list_any (has a) rs ≡ list_any (has a) rest =
    ap (list_any (has a)) (sym (take-append-drop i rs)) ∙ list_any-append (has a) (take i rs) (drop i rs) ∙ rw front (ap (list_any (has a)) (sym rest_is)) in
    sym (all_has ∙ rest_has)

pub near_only : (rs rest : List Range) (from limit i j : ℕ) → rest ≡ drop i rs
    → IsPartitionPoint (λ r. nat_le r.end from ≡ true) (λ r. nat_le r.end from ≡ false) rs i
    → IsPartitionPoint (λ r. nat_lt r.start limit ≡ true) (λ r. nat_lt r.start limit ≡ false) rest j
    → All (λ r. (from < r.end) × (r.start < limit)) (take j rest)
near_only rs rest from limit i j rest_is first last = λ k d lt.
    let less : k < j = omega (arith, lt, length-take j rest) in
    let within : k < length rest = omega (arith, lt, length-take j rest) in
    let there : i + k < length rs = let same : length rest ≡ length (drop i rs) = ap length rest_is in omega (arith, within, same, length-drop i rs) in
    let early = last.0 k d (omega arith) less in
    let late = first.1 (i + k) d (omega arith) there in
    let is : get_or rest k d ≡ get_or rs (i + k) d = ap (λ (xs : List Range). get_or xs k d) rest_is ∙ get_or-drop i rs k d in
    let end : from < (get_or rs (i + k) d).end = grind (arith, nat_tests, late) in
    let start : (get_or rest k d).start < limit = grind (arith, nat_tests, early) in
    rw (get_or-take j rest k d less) (rw is end, start)

-- ---- ranges that are made to rise

pub merged_rises : (end : ℕ) (rs : List Range) → rises end (merged end rs) ≡ true
unfolding rises merged
merged_rises end [] = refl
merged_rises end (r ∷ rs) = elim (cases_Bool (nat_lt r.start r.end && nat_lt end r.end)) [
  | inr skipped ↦ rw skipped (merged_rises end rs)
  | inl kept ↦
      let parts = and_parts (nat_lt r.start r.end) (nat_lt end r.end) kept in
      let low : nat_le end (max r.start end) ≡ true = grind (arith, nat_tests) in
      let high : nat_le (max r.start end) r.end ≡ true = let one = parts.0 in let two = parts.1 in grind (arith, nat_tests) in
      rw (kept, low, high) (merged_rises r.end rs)
]

kept_has : (s e end a : ℕ) (rest : Bool) → nat_lt s e ≡ true → nat_lt end e ≡ true → (a < s → rest ≡ false)
    → ((nat_le (max s end) a && nat_lt a e) || (nat_le e a && rest)) ≡ (nat_le end a && ((nat_le s a && nat_lt a e) || rest))
kept_has s e end a false some past below = grind (arith, nat_tests)
kept_has s e end a true some past below = elim (cases_Bool (nat_le s a)) [
  | inl from ↦ grind (arith, nat_tests)
  | inr before ↦
      let lt : a < s = grind (arith, nat_tests) in
      absurd (false≢true (sym (below lt)))
]

skipped_has : (s e end a : ℕ) (rest : Bool) → (nat_lt s e && nat_lt end e) ≡ false → (nat_le end a && rest) ≡ (nat_le end a && ((nat_le s a && nat_lt a e) || rest))
skipped_has s e end a true skipped = grind (arith, nat_tests)
skipped_has s e end a false skipped = grind (arith, nat_tests)

none_before : (r : Range) (rs : List Range) (a : ℕ) → IsNonDecreasingBy (λ x. x.start) (r ∷ rs) → a < r.start → list_any (has a) rs ≡ false
none_before r rs a sorted lt = list_any_none (has a) rs (λ k d within.
    let le : r.start ≤ (get_or rs k d).start = sorted 0 (suc k) d (omega arith) (omega arith) in
    grind (arith, nat_tests))

-- they have the addresses from the end on
pub merged_has : (end : ℕ) (rs : List Range) (a : ℕ) → IsNonDecreasingBy (λ x. x.start) rs → list_any (has a) (merged end rs) ≡ (nat_le end a && list_any (has a) rs)
unfolding merged
merged_has end [] a sorted = sym (and-false (nat_le end a))
merged_has end (r ∷ rs) a sorted =
    let left : IsNonDecreasingBy (λ x. x.start) rs = λ i j d le within. sorted (suc i) (suc j) d (omega arith) (omega arith) in
    elim (cases_Bool (nat_lt r.start r.end && nat_lt end r.end)) [
      | inr skipped ↦ rw skipped (merged_has end rs a left ∙ skipped_has r.start r.end end a (list_any (has a) rs) skipped)
      | inl kept ↦
          let parts = and_parts (nat_lt r.start r.end) (nat_lt end r.end) kept in
          rw (kept, merged_has r.end rs a left) (kept_has r.start r.end end a (list_any (has a) rs) parts.0 parts.1 (λ lt. none_before r rs a sorted lt))
    ]

-- ranges in another order, made to rise
pub apart_has : (old ranges : List Range) (a : ℕ) → IsPermutation old ranges → IsNonDecreasingBy (λ x. x.start) ranges → list_any (has a) (merged 0 ranges) ≡ list_any (has a) old
apart_has old ranges a same sorted =
    let all : nat_le 0 a ≡ true = grind (arith, nat_tests) in
    merged_has 0 ranges a sorted ∙ ap (λ (b : Bool). b && list_any (has a) ranges) all ∙ sym (list_any-IsPermutation (has a) old ranges same)

-- ---- addresses between ranges

module _ (rs : List Range) (a i : ℕ) (e : Range) (h : rises 0 rs ≡ true) where
  pub first_end : 0 < i → i ≤ length rs → (get_or rs (i - 1) e).end ≤ a → AllWithin (λ r. r.end ≤ a) rs 0 i
  first_end some within last = λ k d low less.
      let le = ends_rise rs h k (i - 1) d (omega arith) (omega arith) in
      let same = get_or_default rs (i - 1) d e (omega arith) in
      let same_end : (get_or rs (i - 1) d).end ≡ (get_or rs (i - 1) e).end = ap (λ (r : Range). r.end) same in
      omega (arith, le, last, same_end)

  pub others_start : a ≤ (get_or rs i e).start → AllWithin (λ r. a ≤ r.start) rs i (length rs)
  others_start first = λ k d low less.
      let le = starts_rise rs h i k d low less in
      let same = get_or_default rs i d e (omega arith) in
      let same_start : (get_or rs i d).start ≡ (get_or rs i e).start = ap (λ (r : Range). r.start) same in
      omega (arith, le, first, same_start)

-- a range that does not start before an end
pub starts_past : (b : Bool) (start limit : ℕ) → b ≡ nat_lt start limit → not b ≡ true → limit ≤ start
starts_past b start limit is late =
    let other : not (nat_lt start limit) ≡ true = ap not (sym is) ∙ late in
    grind (arith, nat_tests)

-- no range has an address between those before an index and the others
pub between : (rs : List Range) (from to i a : ℕ) → AllWithin (λ r. r.end ≤ from) rs 0 i → AllWithin (λ r. to ≤ r.start) rs i (length rs) → from ≤ a → a < to → list_any (has a) rs ≡ false
between rs from to i a before after low high = list_any_none (has a) rs (λ k d within. elim (cases_lt k i) [
  | inl less ↦ let ended = before k d (omega arith) less in grind (arith, nat_tests)
  | inr le ↦ let late = after k d le within in grind (arith, nat_tests)
])
