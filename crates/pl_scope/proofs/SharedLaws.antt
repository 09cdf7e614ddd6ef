-- The flags of hashes that have more entries than one.
use Rattle.std.proofs.Common.{◌≡◌, ℕ, zero, suc, ◌+◌, ◌-◌, ◌<◌, ◌≤◌, Bool, true, false, ◌||◌, List, [], ◌∷◌, length, get_or, take, drop, ◌++◌, refl, sym, ap, ◌∙◌, subst, arith, inl, inr}
use Rattle.std.specs.Prelude.{nat_lt, ◌==◌, slice_index_or}
use Rattle.std.proofs.lemmas.Bool.{cases_Bool, eqb-true, eq-eqb, or_left, or_right, ltb-true, ltb-false, true≢false}
use Rattle.std.proofs.Math.Seq.{take-append_seam}
use Rattle.std.proofs.lemmas.List.{get_or_default}
use Rattle.pl_scope.specs.Index.{entries_of, IsInOrder}
use Rattle.pl_scope.specs.Shared.{flag_of, is_flagged, is_of_twins, AreNoted, AreShared}
use Rattle.pl_scope.specs.ShortIndex.{mixed}
use Rattle.pl_scope.specs.declared.index.Entry.{Entry}
use Rattle.pl_scope.proofs.IndexLaws.{mixed_once}

-- ---- the flags of the entries that follow one another

pub noted_none : (es : List Entry) (flags : List Bool) → AreNoted es 1 flags
noted_none es flags k d lt same = absurd (omega (arith, lt))

flag_small : (hash : ℕ) → flag_of hash < 32768
flag_small hash = omega arith

twins : (before hash other : ℕ) → before ≡ hash → other ≡ before → is_of_twins before hash (flag_of other) ≡ true
twins before hash other same is = rw (is, same, eq-eqb hash hash refl, eq-eqb (flag_of hash) (flag_of hash) refl) refl

get_hash : (es : List Entry) (k : ℕ) (d e : Entry) → k < length es → (get_or es k d).hash ≡ (get_or es k e).hash
get_hash es k d e lt = ap (λ (x : Entry). x.hash) (get_or_default es k d e lt)

-- one entry more
pub noted_more : (es : List Entry) (flags new : List Bool) (place before hash : ℕ) (first second : Entry) → 1 ≤ place → place < length es → length flags ≡ 32768
    → before ≡ (get_or es (place - 1) first).hash → hash ≡ (get_or es place second).hash
    → ((j : ℕ) → j < length flags → slice_index_or new j false ≡ (slice_index_or flags j false || is_of_twins before hash j))
    → AreNoted es place flags → AreNoted es (place + 1) new
noted_more es flags new place before hash first second some lt count is_before is each so_far k d less same =
    let at : slice_index_or new (flag_of (get_or es k d).hash) false ≡ (slice_index_or flags (flag_of (get_or es k d).hash) false || is_of_twins before hash (flag_of (get_or es k d).hash)) =
    each (flag_of (get_or es k d).hash) (omega (arith, flag_small (get_or es k d).hash, count)) in
    elim (cases_Bool (nat_lt (k + 1) place)) [
      | inl earlier ↦ at ∙ or_left (slice_index_or flags (flag_of (get_or es k d).hash) false) (is_of_twins before hash (flag_of (get_or es k d).hash)) (so_far k d (ltb-true (k + 1) place earlier) same)
      | inr here ↦
          let last : k + 1 ≡ place = omega (arith, less, ltb-false (k + 1) place here) in
          let own : (get_or es k d).hash ≡ before =
          get_hash es k d first (omega (arith, last, lt)) ∙ ap (λ (n : ℕ). (get_or es n first).hash) (omega (arith, last)) ∙ sym is_before in
          let next : (get_or es (k + 1) d).hash ≡ hash =
          get_hash es (k + 1) d second (omega (arith, last, lt)) ∙ ap (λ (n : ℕ). (get_or es n second).hash) last ∙ sym is in
          at ∙ or_right (slice_index_or flags (flag_of (get_or es k d).hash) false) (is_of_twins before hash (flag_of (get_or es k d).hash))
          (twins before hash (get_or es k d).hash (sym own ∙ same ∙ next) own)
    ]

-- ---- where a hash has more entries than one, two of them follow one another

record IsAt (es : List Entry) (hash : ℕ) : Type 0 where
  place : ℕ
  within : place < length es
  is : (d : Entry) → (get_or es place d).hash ≡ hash

has_at : (es : List Entry) (hash : ℕ) → 0 < length (entries_of es hash) → IsAt es hash
has_at [] hash some = absurd (omega (arith, some))
has_at (e ∷ es) hash some = elim (cases_Bool (e.hash == hash)) [
  | inl same ↦ record { place = zero; within = omega arith; is = λ d. eqb-true e.hash hash same }
  | inr other ↦ later e es hash (has_at es hash (rw other at some))
]
  where
    later : (e : Entry) (es : List Entry) (hash : ℕ) → IsAt es hash → IsAt (e ∷ es) hash
    later e es hash at = record { place = suc at.place; within = omega (arith, at.within); is = at.is }

-- the entry behind one of a hash has it too, where a later one has
next_has : (e : Entry) (es : List Entry) (hash : ℕ) (d : Entry) → IsInOrder (e ∷ es) → e.hash ≡ hash → IsAt es hash → (get_or es 0 d).hash ≡ hash
next_has e es hash d order here later =
    let low : mixed e.hash ≤ mixed (get_or es 0 d).hash = order.rising 0 1 d (omega arith) (omega (arith, later.within)) in
    let high : mixed (get_or es 0 d).hash ≤ mixed (get_or es later.place d).hash = order.rising 1 (suc later.place) d (omega arith) (omega (arith, later.within)) in
    let first : mixed e.hash ≡ mixed hash = ap (λ (n : ℕ). mixed n) here in
    let last : mixed (get_or es later.place d).hash ≡ mixed hash = ap (λ (n : ℕ). mixed n) (later.is d) in
    let small : e.hash < 4294967296 = order.small 0 d (omega arith) in
    mixed_once (get_or es 0 d).hash hash (order.small 1 d (omega (arith, later.within))) (omega (arith, small, here)) (omega (arith, low, high, first, last))

tail_in_order : (e : Entry) (es : List Entry) → IsInOrder (e ∷ es) → IsInOrder es
tail_in_order e es order = record {
  rising = λ i j d le lt. order.rising (suc i) (suc j) d (omega (arith, le)) (omega (arith, lt));
  small = λ k d lt. order.small (suc k) d (omega (arith, lt));
}

tail_noted : (e : Entry) (es : List Entry) (flags : List Bool) → AreNoted (e ∷ es) (length (e ∷ es)) flags → AreNoted es (length es) flags
tail_noted e es flags noted k d lt same =
    let next : suc k + 1 ≡ suc (k + 1) = omega arith in
    noted (suc k) d (omega (arith, lt)) (same ∙ ap (λ (n : ℕ). (get_or (e ∷ es) n d).hash) (sym next))

flagged : (es : List Entry) (flags : List Bool) (hash : ℕ) → IsInOrder es → AreNoted es (length es) flags → 1 < length (entries_of es hash) → is_flagged flags hash ≡ true
flagged [] flags hash order noted more = absurd (omega (arith, more))
flagged (e ∷ es) flags hash order noted more = elim (cases_Bool (e.hash == hash)) [
  | inl same ↦
      let here : e.hash ≡ hash = eqb-true e.hash hash same in
      let rest = rw same at more in
      let later : IsAt es hash = has_at es hash (omega (arith, rest)) in
      let next : (get_or es 0 e).hash ≡ hash = next_has e es hash e order here later in
      subst (λ (h : ℕ). is_flagged flags h ≡ true) here (noted 0 e (omega (arith, later.within)) (here ∙ sym next))
  | inr other ↦ flagged es flags hash (tail_in_order e es order) (tail_noted e es flags noted) (rw other at more)
]

pub shared_by : (es : List Entry) (flags : List Bool) → length flags ≡ 32768 → IsInOrder es → AreNoted es (length es) flags → AreShared es flags
shared_by es flags count order noted = record { count = count; told = λ hash more. flagged es flags hash order noted more }

-- a hash whose flag is not set has one entry at most
pub alone_by : (es : List Entry) (flags : List Bool) (hash : ℕ) → AreShared es flags → is_flagged flags hash ≡ false → length (entries_of es hash) ≤ 1
alone_by es flags hash shared none = elim (cases_Bool (nat_lt 1 (length (entries_of es hash)))) [
  | inl more ↦ absurd (true≢false (sym (shared.told hash (ltb-true 1 (length (entries_of es hash)) more)) ∙ none))
  | inr few ↦ ltb-false 1 (length (entries_of es hash)) few
]

-- flags that are written whole
pub put_whole : (new old : List Bool) (count : ℕ) → length new ≡ count → take count (new ++ drop (length new) old) ≡ new
put_whole new old count long = subst (λ (n : ℕ). take n (new ++ drop (length new) old) ≡ new) long (take-append_seam new (drop (length new) old))
