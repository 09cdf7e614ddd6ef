-- What the symbols of a chain are, one at a time.
use Rattle.std.proofs.Common.{◌≡◌, ℕ, zero, suc, ◌+◌, ◌<◌, ◌≤◌, Bool, true, false, cond, eqb, ◌||◌, List, [], ◌∷◌, Option, Some, None, refl, sym, ap, subst, ◌∙◌, arith, inl, inr, length}
use Rattle.std.specs.Prelude.{IsTrue, IsSome, IfSome, nat_eq, slice_get, filter, ◌==◌, ◌%◌}
use Rattle.std.specs.Option.{unwrap_or}
use Rattle.std.specs.List.{list_any, AllByRecursion, IsDistinct}
use Rattle.std.proofs.lemmas.Bool.{false≢true, false_from_ne_true, eqb-true, eqb-false, eq-eqb, ne_eqb, or_parts, or_cases, or_left, or_right, and_parts, leb-true, ltb-true}
use Rattle.std.proofs.lemmas.Map.Keys.{IsDistinct-cons, IsDistinct-head, IsDistinct-tail}
use Rattle.std.proofs.lemmas.Nat.{mod_below}
use Rattle.std.proofs.lemmas.Option.{same_Some}
use Rattle.pl_hash.specs.Table.{HashTable}
use Rattle.pl_hash.specs.declared.table.TheConstants.{WORD_SIZE}
use Rattle.pl_hash.specs.Table.{bucket_count, admits, matches, link_at}
use Rattle.pl_hash.specs.Chain.{chain_from, chain, following, head, is_linked, IsLinked, IsWellFormed}
use Rattle.pl_hash.specs.ChainSymbols.{matching, chain_symbols, is_chain_symbol, rest_after, rest_from}
use Rattle.pl_hash.proofs.ChainLaws.{opened, chain_from-none, chain_from-zero, more_steps, same_chain}

pub IsLinked-from : (t : HashTable) (index : ℕ) → is_linked t index ≡ true → IsLinked t index
unfolding is_linked
IsLinked-from t index h =
    let p = and_parts _ _ h in
    let q = and_parts _ _ p.0 in
    record { below = ltb-true index t.symbols q.1; within = leb-true (link_at t index + WORD_SIZE) (length t.words) p.1 }

-- ---- a chain from a symbol on

opened_within : (t : HashTable) (n index : ℕ) (xs : List ℕ) → chain_from t n (Some index) ≡ Some xs
    → (rest : List ℕ) × (is_linked t index ≡ true) × (chain_from t n (following t index) ≡ Some rest) × (xs ≡ index ∷ rest)
opened_within t zero index xs e = let none = chain_from-zero t index in absurd (cc)
opened_within t (suc n) index xs e =
    let o = opened t n index xs e in
    (o.0, o.1, more_steps t n (suc n) (following t index) o.0 (omega arith) o.2, o.3)

pub chain_value : (o : Option (List ℕ)) → IsSome o → (xs : List ℕ) × (o ≡ Some xs)
chain_value (Some xs) h = (xs, refl)
chain_value None h = absurd (false≢true h)

-- the chain from a symbol on has it first; the rest is the chain from the following one
pub record Opens (t : HashTable) (index : ℕ) : Type 0 where
  pub rest : List ℕ
  pub linked : is_linked t index ≡ true
  pub whole : chain t (Some index) ≡ Some (index ∷ rest)
  pub more : chain t (following t index) ≡ Some rest

pub opens : (t : HashTable) (index : ℕ) → IsSome (chain t (Some index)) → Opens t index
unfolding chain
opens t index h =
    let v = chain_value (chain_from t t.symbols (Some index)) h in
    let o = opened_within t t.symbols index v.0 v.1 in
    record { rest = o.0; linked = o.1; whole = v.1 ∙ ap (λ (xs : List ℕ). Some xs) o.3; more = o.2 }

-- ---- the first that may have a hash

abbrev pub left : HashTable → Option ℕ → ℕ
left t at = length (unwrap_or (chain t at) [])

pub none_left : (t : HashTable) (hash : ℕ) → slice_get (matching t hash None) 0 ≡ None
unfolding matching chain
none_left t hash = rw (chain_from-none t t.symbols) refl

pub hit : (t : HashTable) (hash index : ℕ) → IsSome (chain t (Some index)) → matches t hash index ≡ true → slice_get (matching t hash (Some index)) 0 ≡ Some index
unfolding matching
hit t hash index h match = let o = opens t index h in rw (o.whole, match) refl

pub miss : (t : HashTable) (hash index : ℕ) → IsSome (chain t (Some index)) → matches t hash index ≡ false → matching t hash (Some index) ≡ matching t hash (following t index)
unfolding matching
miss t hash index h match = let o = opens t index h in rw (o.whole, o.more, match) refl

pub still_ends : (t : HashTable) (index : ℕ) → IsSome (chain t (Some index)) → IsSome (chain t (following t index))
still_ends t index h = let o = opens t index h in rw o.more refl

pub fewer_left : (t : HashTable) (index : ℕ) → IsSome (chain t (Some index)) → left t (following t index) < left t (Some index)
fewer_left t index h = let o = opens t index h in rw (o.more, o.whole) (omega arith)

-- ---- the ones after a symbol of a list

-- a symbol of the list is there
abbrev pub has : ℕ → List ℕ → Bool
has index xs = list_any (λ k. k == index) xs

filter_has_by : (p : ℕ → Bool) (x index : ℕ) (xs : List ℕ) (b : Bool) → p x ≡ b → (has index (filter p xs) ≡ true → (p index ≡ true) × (has index xs ≡ true))
    → has index (cond b (x ∷ filter p xs) (filter p xs)) ≡ true → (p index ≡ true) × (has index (x ∷ xs) ≡ true)
filter_has_by p x index xs false e more h = let m = more h in (m.0, or_right (eqb x index) (has index xs) m.1)
filter_has_by p x index xs true e more h =
    elim (or_cases (eqb x index) (has index (filter p xs)) h) [
      | inl same ↦ let k = eqb-true x index same in (rw k at e, or_left (eqb x index) (has index xs) same)
      | inr later ↦ let m = more later in (m.0, or_right (eqb x index) (has index xs) m.1)
    ]

-- a symbol that passes a test in a list passes it, and is in the list
pub filter_has : (p : ℕ → Bool) (index : ℕ) (xs : List ℕ) → has index (filter p xs) ≡ true → (p index ≡ true) × (has index xs ≡ true)
filter_has p index [] h = absurd (false≢true h)
filter_has p index (x ∷ xs) h = filter_has_by p x index xs (p x) refl (filter_has p index xs) h

rest_after-filter_by : (p : ℕ → Bool) (x index : ℕ) (xs : List ℕ) (b same : Bool) → p x ≡ b → eqb x index ≡ same → p index ≡ true
    → rest_after index (filter p xs) ≡ filter p (rest_after index xs)
    → rest_after index (cond b (x ∷ filter p xs) (filter p xs)) ≡ filter p (cond same xs (rest_after index xs))
rest_after-filter_by p x index xs true true e is_same passes more = rw is_same refl
rest_after-filter_by p x index xs true false e is_same passes more = rw is_same more
rest_after-filter_by p x index xs false true e is_same passes more = let k = eqb-true x index is_same in absurd (false≢true (sym e ∙ ap p k ∙ passes))
rest_after-filter_by p x index xs false false e is_same passes more = more

pub rest_after-filter : (p : ℕ → Bool) (index : ℕ) (xs : List ℕ) → p index ≡ true → rest_after index (filter p xs) ≡ filter p (rest_after index xs)
rest_after-filter p index [] passes = refl
rest_after-filter p index (x ∷ xs) passes = rest_after-filter_by p x index xs (p x) (eqb x index) refl refl passes (rest_after-filter p index xs passes)

-- after a symbol of a chain comes the chain from the following one
abbrev pub Follows : HashTable → ℕ → List ℕ → Type 0
Follows t index xs = (is_linked t index ≡ true) × (chain_from t t.symbols (following t index) ≡ Some (rest_after index xs))

follows_by : (t : HashTable) (n first index : ℕ) (rest : List ℕ) (same : Bool) → eqb first index ≡ same → n ≤ t.symbols → is_linked t first ≡ true
    → chain_from t n (following t first) ≡ Some rest → (has index rest ≡ true → Follows t index rest) → (same || has index rest) ≡ true
    → (is_linked t index ≡ true) × (chain_from t t.symbols (following t index) ≡ Some (cond same rest (rest_after index rest)))
follows_by t n first index rest true is_same le linked e more h =
    let k = eqb-true first index is_same in
    (rw k at linked, more_steps t n t.symbols (following t index) rest le (rw k at e))
follows_by t n first index rest false is_same le linked e more h = more h

pub follows : (t : HashTable) (n : ℕ) (start : Option ℕ) (xs : List ℕ) (index : ℕ) → n ≤ t.symbols → chain_from t n start ≡ Some xs → has index xs ≡ true → Follows t index xs
unfolding chain_from
follows t n None xs index le e h =
    let none : xs ≡ [] = same_Some xs [] (sym e ∙ chain_from-none t n) in
    absurd (false≢true (rw none at h))
follows t zero (Some first) xs index le e h = absurd cc
follows t (suc n) (Some first) xs index le e h =
    let o = opened t n first xs e in
    rw o.3 (follows_by t n first index o.0 (eqb first index) refl (omega arith) o.1 o.2 (follows t n (following t first) o.0 index (omega arith) o.2) (rw o.3 at h))

-- ---- the symbols of a chain

-- after a symbol of the list come those from the following one
pub record GoesOn (t : HashTable) (hash index : ℕ) (xs : List ℕ) : Type 0 where
  pub linked : is_linked t index ≡ true
  pub ends : IsSome (chain t (following t index))
  pub rest : rest_after index xs ≡ matching t hash (following t index)

goes_on_from : (t : HashTable) (hash index : ℕ) (start : Option ℕ) (xs : List ℕ) → chain t start ≡ Some xs → has index (matching t hash start) ≡ true → GoesOn t hash index (matching t hash start)
unfolding matching chain
goes_on_from t hash index start xs e h =
    let f = filter_has (matches t hash) index xs (rw e at h) in
    let g = follows t t.symbols start xs index (omega arith) e f.1 in
    record { linked = g.0; ends = rw g.1 refl; rest = rw (e, g.1) (rest_after-filter (matches t hash) index xs f.0) }

goes_on_by : (t : HashTable) (hash index : ℕ) (start : Option ℕ) (admitted : Bool) → IsSome (chain t start) → has index (cond admitted (matching t hash start) []) ≡ true
    → GoesOn t hash index (cond admitted (matching t hash start) [])
goes_on_by t hash index start false ends h = absurd (false≢true h)
goes_on_by t hash index start true ends h = let v = chain_value (chain t start) ends in goes_on_from t hash index start v.0 v.1 h

pub goes_on : (t : HashTable) (hash index : ℕ) → IsWellFormed t → IsTrue (is_chain_symbol t hash index) → GoesOn t hash index (chain_symbols t hash)
unfolding chain_symbols
goes_on t hash index formed h =
    let k = hash % bucket_count t in
    goes_on_by t hash index (head t k) (admits t hash) (formed.ends k (mod_below hash (bucket_count t) formed.buckets.some)) h

-- ---- the symbols are distinct

-- a chain from one of its symbols on is shorter than the chain
reaches_by : (t : HashTable) (n first index : ℕ) (rest : List ℕ) (same : Bool) → eqb first index ≡ same → chain_from t (suc n) (Some first) ≡ Some (first ∷ rest)
    → (has index rest ≡ true → (m : ℕ) × (ys : List ℕ) × (chain_from t m (Some index) ≡ Some (index ∷ ys)) × (length ys < length rest)) → (same || has index rest) ≡ true
    → (m : ℕ) × (ys : List ℕ) × (chain_from t m (Some index) ≡ Some (index ∷ ys)) × (length ys < length (first ∷ rest))
reaches_by t n first index rest true is_same whole more h = let k = eqb-true first index is_same in (suc n, rest, rw k at whole, omega arith)
reaches_by t n first index rest false is_same whole more h = let m = more h in (m.0, m.1, m.2, omega (arith, m.3))

reaches : (t : HashTable) (n : ℕ) (start : Option ℕ) (xs : List ℕ) (index : ℕ) → chain_from t n start ≡ Some xs → has index xs ≡ true
    → (m : ℕ) × (ys : List ℕ) × (chain_from t m (Some index) ≡ Some (index ∷ ys)) × (length ys < length xs)
reaches t n None xs index e h =
    let none : xs ≡ [] = same_Some xs [] (sym e ∙ chain_from-none t n) in
    absurd (false≢true (rw none at h))
reaches t zero (Some first) xs index e h = let none = chain_from-zero t first in absurd (cc)
reaches t (suc n) (Some first) xs index e h =
    let o = opened t n first xs e in
    rw o.3 (reaches_by t n first index o.0 (eqb first index) refl (rw o.3 at e) (reaches t n (following t first) o.0 index o.2) (rw o.3 at h))

not_again : (t : HashTable) (n index : ℕ) (rest : List ℕ) → chain_from t (suc n) (Some index) ≡ Some (index ∷ rest) → chain_from t n (following t index) ≡ Some rest → has index rest ≡ false
not_again t n index rest whole more =
    false_from_ne_true (has index rest) (λ h.
    let r = reaches t n (following t index) rest index more h in
    let same : index ∷ rest ≡ index ∷ r.1 = same_chain t (suc n) r.0 (Some index) (index ∷ rest) (index ∷ r.1) whole r.2 in
    omega (arith, ap length same, r.3))

apart_from : (x : ℕ) (ys : List ℕ) → has x ys ≡ false → AllByRecursion (λ y. nat_eq x y ≡ false) ys
apart_from x [] h = tt
apart_from x (y ∷ ys) h =
    let p = or_parts (eqb y x) (has x ys) h in
    (ne_eqb x y (λ e. eqb-false y x p.0 (sym e)), apart_from x ys p.1)

chain-distinct : (t : HashTable) (n : ℕ) (start : Option ℕ) (xs : List ℕ) → chain_from t n start ≡ Some xs → IsDistinct nat_eq xs
unfolding IsDistinct
chain-distinct t n None xs e = let none : [] ≡ xs = same_Some [] xs (sym (chain_from-none t n) ∙ e) in subst (IsDistinct nat_eq) none tt
chain-distinct t zero (Some first) xs e = let none = chain_from-zero t first in absurd (cc)
chain-distinct t (suc n) (Some first) xs e =
    let o = opened t n first xs e in
    rw o.3 (apart_from first o.0 (not_again t n first o.0 (rw o.3 at e) o.2), chain-distinct t n (following t first) o.0 o.2)

apart-filter_by : (p : ℕ → Bool) (first x : ℕ) (xs : List ℕ) (b : Bool) → nat_eq first x ≡ false → AllByRecursion (λ y. nat_eq first y ≡ false) (filter p xs)
    → AllByRecursion (λ y. nat_eq first y ≡ false) (cond b (x ∷ filter p xs) (filter p xs))
apart-filter_by p first x xs true here more = (here, more)
apart-filter_by p first x xs false here more = more

apart-filter : (p : ℕ → Bool) (first : ℕ) (xs : List ℕ) → AllByRecursion (λ y. nat_eq first y ≡ false) xs → AllByRecursion (λ y. nat_eq first y ≡ false) (filter p xs)
apart-filter p first [] h = tt
apart-filter p first (x ∷ xs) h = apart-filter_by p first x xs (p x) h.0 (apart-filter p first xs h.1)

distinct-filter_by : (p : ℕ → Bool) (x : ℕ) (xs : List ℕ) (b : Bool) → AllByRecursion (λ y. nat_eq x y ≡ false) (filter p xs) → IsDistinct nat_eq (filter p xs) → IsDistinct nat_eq (cond b (x ∷ filter p xs) (filter p xs))
distinct-filter_by p x xs true here more = IsDistinct-cons nat_eq x (filter p xs) here more
distinct-filter_by p x xs false here more = more

distinct-filter : (p : ℕ → Bool) (xs : List ℕ) → IsDistinct nat_eq xs → IsDistinct nat_eq (filter p xs)
distinct-filter p [] h = h
distinct-filter p (x ∷ xs) h =
    distinct-filter_by p x xs (p x) (apart-filter p x xs (IsDistinct-head nat_eq x xs h)) (distinct-filter p xs (IsDistinct-tail nat_eq x xs h))

matching-distinct : (t : HashTable) (hash : ℕ) (start : Option ℕ) → IsSome (chain t start) → IsDistinct nat_eq (matching t hash start)
unfolding matching chain
matching-distinct t hash start ends =
    let v = chain_value (chain_from t t.symbols start) ends in
    rw v.1 (distinct-filter (matches t hash) v.0 (chain-distinct t t.symbols start v.0 v.1))

distinct_by : (xs : List ℕ) (admitted : Bool) → IsDistinct nat_eq xs → IsDistinct nat_eq (cond admitted xs [])
unfolding IsDistinct
distinct_by xs true h = h
distinct_by xs false h = tt

pub chain_symbols-distinct : (t : HashTable) (hash : ℕ) → IsWellFormed t → IsDistinct nat_eq (chain_symbols t hash)
unfolding chain_symbols
chain_symbols-distinct t hash formed =
    let k = hash % bucket_count t in
    distinct_by (matching t hash (head t k)) (admits t hash) (matching-distinct t hash (head t k) (formed.ends k (mod_below hash (bucket_count t) formed.buckets.some)))

pub chain_symbol_below : (t : HashTable) (hash index : ℕ) → IsWellFormed t → IsTrue (is_chain_symbol t hash index) → index < t.symbols
chain_symbol_below t hash index formed h = (IsLinked-from t index (goes_on t hash index formed h).linked).below

-- ---- one symbol after the other

has-rest_after_by : (x index i : ℕ) (xs : List ℕ) (same : Bool) → (has i (rest_after index xs) ≡ true → has i xs ≡ true) → has i (cond same xs (rest_after index xs)) ≡ true → has i (x ∷ xs) ≡ true
has-rest_after_by x index i xs true more h = or_right (eqb x i) (has i xs) h
has-rest_after_by x index i xs false more h = or_right (eqb x i) (has i xs) (more h)

has-rest_after : (index i : ℕ) (xs : List ℕ) → has i (rest_after index xs) ≡ true → has i xs ≡ true
has-rest_after index i [] h = h
has-rest_after index i (x ∷ xs) h = has-rest_after_by x index i xs (eqb x index) (has-rest_after index i xs) h

has-first : (i : ℕ) (ys : List ℕ) → has i (i ∷ ys) ≡ true
has-first i ys = or_left (eqb i i) (has i ys) (eq-eqb i i refl)

given_by : (xs ys : List ℕ) → ((i : ℕ) → has i ys ≡ true → has i xs ≡ true) → IfSome (slice_get ys 0) (λ i. IsTrue (has i xs))
given_by xs [] within = tt
given_by xs (y ∷ ys) within = within y (has-first y ys)

-- the first of a list is one of it, and is what the list begins with
pub given_first : (xs : List ℕ) → IfSome (slice_get xs 0) (λ i. IsTrue (has i xs))
given_first xs = given_by xs xs (λ i h. h)

pub rest_from-first : (xs : List ℕ) → rest_from (slice_get xs 0) xs ≡ xs
rest_from-first [] = refl
rest_from-first (x ∷ xs) = rw (eq-eqb x x refl) refl

-- the symbol after one of a list is one of it
pub given_after : (index : ℕ) (xs : List ℕ) → IfSome (slice_get (rest_after index xs) 0) (λ i. IsTrue (has i xs))
given_after index xs = given_by xs (rest_after index xs) (λ i h. has-rest_after index i xs h)

apart_at : (x y : ℕ) (ys : List ℕ) → AllByRecursion (λ z. nat_eq x z ≡ false) ys → has y ys ≡ true → eqb x y ≡ false
apart_at x y [] all h = absurd (false≢true h)
apart_at x y (z ∷ zs) all h =
    elim (or_cases (eqb z y) (has y zs) h) [
      | inl same ↦ let k = eqb-true z y same in rw k at all.0
      | inr later ↦ apart_at x y zs all.1 later
    ]

after_next_by : (x index y : ℕ) (xs ys : List ℕ) (same : Bool) → AllByRecursion (λ z. nat_eq x z ≡ false) xs → cond same xs (rest_after index xs) ≡ y ∷ ys
    → (rest_after index xs ≡ y ∷ ys → rest_after y xs ≡ ys) → rest_after y (x ∷ xs) ≡ ys
after_next_by x index y xs ys true apart e more =
    let here : has y xs ≡ true = rw e (has-first y ys) in
    let differ : eqb x y ≡ false = apart_at x y xs apart here in
    rw (differ, e, eq-eqb y y refl) refl
after_next_by x index y xs ys false apart e more =
    let here : has y xs ≡ true = has-rest_after index y xs (rw e (has-first y ys)) in
    let differ : eqb x y ≡ false = apart_at x y xs apart here in
    rw differ (more e)

-- in a list of distinct symbols, the ones after the one that comes after another are the rest of those after that other
after_next : (index y : ℕ) (xs ys : List ℕ) → IsDistinct nat_eq xs → rest_after index xs ≡ y ∷ ys → rest_after y xs ≡ ys
after_next index y [] ys distinct e = absurd cc
after_next index y (x ∷ xs) ys distinct e =
    after_next_by x index y xs ys (eqb x index) (IsDistinct-head nat_eq x xs distinct) e (after_next index y xs ys (IsDistinct-tail nat_eq x xs distinct))

rest_from_by : (xs ys : List ℕ) → ((y : ℕ) (zs : List ℕ) → ys ≡ y ∷ zs → rest_after y xs ≡ zs) → rest_from (slice_get ys 0) xs ≡ ys
rest_from_by xs [] goes = refl
rest_from_by xs (y ∷ zs) goes = ap (λ rest. y ∷ rest) (goes y zs refl)

-- what is left from the symbol after one on is what comes after that one
pub rest_from-next : (index : ℕ) (xs : List ℕ) → IsDistinct nat_eq xs → rest_from (slice_get (rest_after index xs) 0) xs ≡ rest_after index xs
rest_from-next index xs distinct = rest_from_by xs (rest_after index xs) (λ y zs e. after_next index y xs zs distinct e)

-- the first from the following one on is the one after it
pub next_is : (t : HashTable) (hash index : ℕ) → IsWellFormed t → IsTrue (is_chain_symbol t hash index) → slice_get (matching t hash (following t index)) 0 ≡ slice_get (rest_after index (chain_symbols t hash)) 0
next_is t hash index formed given = ap (λ (xs : List ℕ). slice_get xs 0) (sym (goes_on t hash index formed given).rest)
