-- Numbers under keys, one by one and in the order of the keys.
use Rattle.std.proofs.Common.{◌≡◌, ℕ, ◌+◌, ◌-◌, ◌<◌, ◌≤◌, Bool, true, false, ◌||◌, List, [], ◌∷◌, ◌++◌, length, take, drop, get_or, Option, Some, None, refl, sym, ap, ◌∙◌, arith, inl, inr}
use Rattle.std.specs.Prelude.{nat_lt, ◌==◌}
use Rattle.std.specs.List.{All, list_any}
use Rattle.std.specs.List.Sorted.{IsPartitionPoint}
use Rattle.std.proofs.lemmas.Bool.{cases_Bool, and_parts, or_left, or_right, eqb-true, eq-eqb, ltb-true, ltb-false}
use Rattle.std.proofs.lemmas.List.{length-take, length-drop, get_or-take, get_or-drop}
use Rattle.std.proofs.lemmas.List.Elements.{All-append, All-cons, All-take, All-drop, All-nil}
use Rattle.std.proofs.lemmas.List.Sorted.{IsNonDecreasingBy-drop, IsNonDecreasingBy-take}
use Rattle.std.proofs.lemmas.List.Folds.{Any-from_list_any, list_any_at, list_any-append}
use Rattle.pl_scope.specs.Block.{values}
use Rattle.pl_scope.specs.Entries.{is_entry, has_key, has_value, AreBetween, AreUnder, IsAdded}
use Rattle.pl_scope.specs.declared.entries.Entry.{Entry}

abbrev pub entry : ℕ → ℕ → Entry
entry key value = record { key = key; value = value }

-- ---- an entry more

self_entry : (key n : ℕ) → is_entry key n (entry key n) ≡ true
self_entry key n = rw (eq-eqb key key refl, eq-eqb n n refl) refl

pub pushed_more : (p : Entry → Bool) (old : List Entry) (e : Entry) → list_any p old ≡ true → list_any p (old ++ e ∷ []) ≡ true
pushed_more p old e hit = list_any-append p old (e ∷ []) ∙ or_left (list_any p old) (list_any p (e ∷ [])) hit

pub pushed_there : (old : List Entry) (key n : ℕ) → list_any (is_entry key n) (old ++ entry key n ∷ []) ≡ true
pushed_there old key n =
    list_any-append (is_entry key n) old (entry key n ∷ []) ∙ or_right (list_any (is_entry key n) old) (list_any (is_entry key n) (entry key n ∷ [])) (or_left (is_entry key n (entry key n)) false (self_entry key n))

pub pushed_within : (old : List Entry) (key n count : ℕ) → n < count → All (λ e. e.value < count) old → All (λ e. e.value < count) (old ++ entry key n ∷ [])
pushed_within old key n count lt all =
    All-append (λ (e : Entry). e.value < count) old (entry key n ∷ []) all (All-cons (λ (e : Entry). e.value < count) (entry key n) [] lt (All-nil (λ (e : Entry). e.value < count)))

pub no_key : (key : ℕ) (x : Option ℕ) → x ≡ None → x ≡ Some key → ⊥
no_key key None none some = absurd (cc)
no_key key (Some other) none some = absurd (cc)

pub one_key : (key other : ℕ) (x : Option ℕ) → x ≡ Some key → x ≡ Some other → key ≡ other
one_key key other x first second = let both : Some key ≡ Some other = sym first ∙ second in cc

-- nothing is added where there is no key
pub added_none : (key : Option ℕ) (value : ℕ) (es : List Entry) → key ≡ None → IsAdded key value es es
added_none key value es none = record { more = λ e hit. hit; within = λ count lt all. all; there = λ k at. absurd (no_key k key none at) }

pub added_one : (key : Option ℕ) (value own : ℕ) (old new : List Entry) → key ≡ Some own → new ≡ old ++ entry own value ∷ [] → IsAdded key value old new
added_one key value own old new named is = rw is (record {
  more = λ e hit. pushed_more (is_entry e.key e.value) old (entry own value) hit;
  within = λ count lt all. pushed_within old own value count lt all;
  there = λ k at. let same : own ≡ k = one_key own k key named at in rw (← same) (pushed_there old own value);
})

-- an entry of a key and a number is one of the key
pub any_key : (key n : ℕ) (es : List Entry) → list_any (is_entry key n) es ≡ true → list_any (has_key key) es ≡ true
any_key key n es hit =
    let at = Any-from_list_any (is_entry key n) es hit in
    list_any_at (has_key key) es at.0 at.1 at.2 (ap (has_key key) at.3 ∙ (and_parts (at.1.key == key) (at.1.value == n) at.4).0)

-- and one of the number
pub any_number : (key n : ℕ) (es : List Entry) → list_any (is_entry key n) es ≡ true → list_any (has_value n) es ≡ true
any_number key n es hit =
    let at = Any-from_list_any (is_entry key n) es hit in
    list_any_at (has_value n) es at.0 at.1 at.2 (ap (has_value n) at.3 ∙ (and_parts (at.1.key == key) (at.1.value == n) at.4).1)

-- ---- the numbers alone

pub any_value : (n : ℕ) (es : List Entry) → list_any (λ k. k == n) (values es) ≡ list_any (has_value n) es
any_value n [] = refl
any_value n (e ∷ es) = ap (λ (b : Bool). e.value == n || b) (any_value n es)

-- ---- the entries of a range of keys

module _ (es : List Entry) (low high i j : ℕ)
    (first : IsPartitionPoint (λ e. nat_lt e.key low ≡ true) (λ e. nat_lt e.key low ≡ false) es i)
    (last : IsPartitionPoint (λ e. nat_lt e.key high ≡ true) (λ e. nat_lt e.key high ≡ false) es j)
    (i_within : i ≤ length es) (j_within : j ≤ length es) where
  pub in_order : low ≤ high → i ≤ j
  in_order le = elim (cases_Bool (nat_lt j i)) [
    | inr ge ↦ ltb-false j i ge
    | inl lt ↦
        let less : j < i = ltb-true j i lt in
        let d : Entry = record { key = 0; value = 0 } in
        let before = first.0 j d (omega arith) less in
        let after = last.1 j d (omega arith) (omega arith) in
        absurd (omega (arith, le, ltb-true (get_or es j d).key low before, ltb-false (get_or es j d).key high after))
  ]

  in_range : (key m : ℕ) → low ≤ key → key < high → list_any (is_entry key m) es ≡ true → list_any (is_entry key m) (take (j - i) (drop i es)) ≡ true
  in_range key m from to hit =
      let at = Any-from_list_any (is_entry key m) es hit in
      let k = at.0 in
      let e = at.1 in
      let parts = and_parts (e.key == key) (e.value == m) at.4 in
      let is : get_or es k e ≡ e = at.3 in
      let named : (get_or es k e).key ≡ key = ap (λ (x : Entry). x.key) is ∙ eqb-true e.key key parts.0 in
      let within : k < length es = at.2 in
      let after : i ≤ k = elim (cases_Bool (nat_lt k i)) [
        | inr ge ↦ ltb-false k i ge
        | inl lt ↦ absurd (omega (arith, named, from, ltb-true (get_or es k e).key low (first.0 k e (omega arith) (ltb-true k i lt))))
      ] in
      let before : k < j = elim (cases_Bool (nat_lt k j)) [
        | inl lt ↦ ltb-true k j lt
        | inr ge ↦ absurd (omega (arith, named, to, ltb-false (get_or es k e).key high (last.1 k e (ltb-false k j ge) within)))
      ] in
      let less : k - i < j - i = omega (arith, after, before) in
      let sum : i + (k - i) ≡ k = omega (arith, after) in
      let there : get_or (take (j - i) (drop i es)) (k - i) e ≡ e = get_or-take (j - i) (drop i es) (k - i) e less ∙ get_or-drop i es (k - i) e ∙ ap (λ (n : ℕ). get_or es n e) sum ∙ is in
      list_any_at (is_entry key m) (take (j - i) (drop i es)) (k - i) e (omega (arith, less, within, after, length-take (j - i) (drop i es), length-drop i es)) (ap (is_entry key m) there ∙ at.4)

  pub are_between : AreBetween es low high (take (j - i) (drop i es))
  are_between = record {
    whole = λ key value from to hit. in_range key value from to hit;
    among = λ count all. All-take (λ (e : Entry). e.value < count) (j - i) (drop i es) (All-drop (λ (e : Entry). e.value < count) i es all);
    rising = λ is. IsNonDecreasingBy-take (λ (e : Entry). e.key) (j - i) (drop i es) (IsNonDecreasingBy-drop (λ (e : Entry). e.key) i es is);
  }

-- those of one key
pub from_under : (es found : List Entry) (key value : ℕ) → AreUnder es key found → list_any (is_entry key value) es ≡ true → list_any (has_value value) found ≡ true
from_under es found key value is hit = any_number key value found (is.whole key value (omega arith) (omega arith) hit)
