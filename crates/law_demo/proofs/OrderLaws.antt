-- The order of a plan's symbols: first those that it does not define, then the others by ascending buckets.
use Rattle.std.proofs.Common.{◌≡◌, ℕ, zero, suc, ◌+◌, ◌<◌, ◌≤◌, Bool, true, false, List, [], ◌∷◌, ◌++◌, length, map, get_or, refl, sym, ap, subst, ◌∙◌, arith, inl, inr}
use Rattle.std.specs.Prelude.{not, ◌==◌, filter, count_by, cond}
use Rattle.std.specs.List.{AllByRecursion, flat_map, range_with_len}
use Rattle.std.proofs.lemmas.Bool.{cases_Bool, and_parts}
use Rattle.std.proofs.lemmas.Bool.Decides.{nat_tests}
use Rattle.std.proofs.lemmas.List.Elements.{filter-append}
use Rattle.std.proofs.lemmas.List.Sums.{sum_by-cons}
use Rattle.pl_hash.specs.Hash.{gnu}
use Rattle.pl_build.specs.declared.line.SymbolLine.{SymbolLine}
use Rattle.pl_build.specs.declared.recipe.Settings.{Settings}
use Rattle.pl_build.specs.HashTables.{is_defined, hash_of, gnu_hashes}
use Rattle.pl_build.specs.Symbols.{bucket_of, bucket, is_in, is_undefined, ordered}

-- ---- all of a list

pub all_at : {X : Type 0} (P : X → Type 0) (xs : List X) (i : ℕ) (d : X) → i < length xs → AllByRecursion P xs → P (get_or xs i d)
all_at P [] i d lt all = absurd (omega (arith, lt))
all_at P (x ∷ xs) zero d lt all = all.0
all_at P (x ∷ xs) (suc i) d lt all = all_at P xs i d (omega (arith, lt)) all.1

all_both : {X : Type 0} (P : X → Type 0) (xs ys : List X) → AllByRecursion P xs → AllByRecursion P ys → AllByRecursion P (xs ++ ys)
all_both P [] ys all more = more
all_both P (x ∷ xs) ys all more = (all.0, all_both P xs ys all.1 more)

all_parts : {X A : Type 0} (P : X → Type 0) (f : A → List X) (ys : List A) → ((a : A) → AllByRecursion P (f a)) → AllByRecursion P (flat_map f ys)
all_parts P f [] each = tt
all_parts P f (a ∷ ys) each = all_both P (f a) (flat_map f ys) (each a) (all_parts P f ys each)

all_passed : {X : Type 0} (P : X → Type 0) (q : X → Bool) → ((x : X) → q x ≡ true → P x) → (xs : List X) → AllByRecursion P (filter q xs)
all_passed P q each [] = tt
all_passed P q each (x ∷ xs) = elim (cases_Bool (q x)) [
  | inl hit ↦ rw hit (each x hit, all_passed P q each xs)
  | inr miss ↦ rw miss (all_passed P q each xs)
]

filter_all : {X : Type 0} (q : X → Bool) (xs : List X) → AllByRecursion (λ x. q x ≡ true) xs → filter q xs ≡ xs
filter_all q [] all = refl
filter_all {X = X} q (x ∷ xs) all = rw all.0 (ap (λ (l : List X). x ∷ l) (filter_all q xs all.1))

filter_no : {X : Type 0} (q : X → Bool) (xs : List X) → AllByRecursion (λ x. q x ≡ false) xs → filter q xs ≡ []
filter_no q [] all = refl
filter_no q (x ∷ xs) all = rw all.0 (filter_no q xs all.1)

-- ---- ascending numbers

abbrev pub Ascends : ℕ → List ℕ → Type 0
Ascends low [] = Unit {0}
Ascends low (x ∷ xs) = (low ≤ x) × Ascends x xs

from_lower : (a b : ℕ) (xs : List ℕ) → a ≤ b → Ascends b xs → Ascends a xs
from_lower a b [] le h = tt
from_lower a b (x ∷ xs) le h = (omega (arith, le, h.0), h.1)

-- equal ones in front
equal_front : (b : ℕ) (xs ys : List ℕ) → AllByRecursion (λ x. x ≡ b) xs → Ascends b ys → Ascends b (xs ++ ys)
equal_front b [] ys all h = h
equal_front b (x ∷ xs) ys all h = (omega (arith, all.0), subst (λ (c : ℕ). Ascends c (xs ++ ys)) (sym all.0) (equal_front b xs ys all.1 h))

least : (low : ℕ) (xs : List ℕ) (i : ℕ) → i < length xs → Ascends low xs → low ≤ get_or xs i 0
least low [] i lt h = absurd (omega (arith, lt))
least low (x ∷ xs) zero lt h = h.0
least low (x ∷ xs) (suc i) lt h = omega (arith, h.0, least x xs i (omega (arith, lt)) h.1)

pub ascends_at : (low : ℕ) (xs : List ℕ) (i j : ℕ) → i ≤ j → j < length xs → Ascends low xs → get_or xs i 0 ≤ get_or xs j 0
ascends_at low [] i j le lt h = absurd (omega (arith, lt))
ascends_at low (x ∷ xs) zero zero le lt h = omega arith
ascends_at low (x ∷ xs) zero (suc j) le lt h = least x xs j (omega (arith, lt)) h.1
ascends_at low (x ∷ xs) (suc i) zero le lt h = absurd (omega (arith, le))
ascends_at low (x ∷ xs) (suc i) (suc j) le lt h = ascends_at x xs i j (omega (arith, le)) (omega (arith, lt)) h.1

-- ---- the symbols of a bucket

same_from : (a b : ℕ) → (a == b) ≡ true → a ≡ b
same_from a b h = grind (arith, nat_tests)

not_true : (b : Bool) → not b ≡ true → b ≡ false
not_true true h = sym h
not_true false h = refl

in_bucket : (s : Settings) (b : ℕ) (x : SymbolLine) → s.hashes.gnu ≡ true → is_in s b x ≡ true → (x.defined ≡ true) × (bucket_of s.buckets (hash_of x) ≡ b)
unfolding is_in bucket hash_of
in_bucket s b x has h =
    let both = and_parts x.defined (bucket s x == b) h in
    let own : bucket s x ≡ bucket_of s.buckets (gnu x.name) = rw has refl in
    (both.0, sym own ∙ same_from (bucket s x) b both.1)

abbrev pub buckets_of : ℕ → List SymbolLine → List ℕ
buckets_of count symbols = map (bucket_of count) (map hash_of symbols)

buckets_all : (count b : ℕ) (symbols : List SymbolLine) → AllByRecursion (λ x. bucket_of count (hash_of x) ≡ b) symbols → AllByRecursion (λ n. n ≡ b) (buckets_of count symbols)
buckets_all count b [] all = tt
buckets_all count b (x ∷ symbols) all = (all.0, buckets_all count b symbols all.1)

buckets_append : (count : ℕ) (xs ys : List SymbolLine) → buckets_of count (xs ++ ys) ≡ buckets_of count xs ++ buckets_of count ys
buckets_append count [] ys = refl
buckets_append count (x ∷ xs) ys = ap (λ (l : List ℕ). bucket_of count (hash_of x) ∷ l) (buckets_append count xs ys)

-- ---- the defined symbols by ascending buckets

abbrev by_buckets : Settings → List SymbolLine → ℕ → ℕ → List SymbolLine
by_buckets s symbols k n = flat_map (λ b. filter (is_in s b) symbols) (range_with_len k n)

ascending : (s : Settings) (symbols : List SymbolLine) (k n : ℕ) → s.hashes.gnu ≡ true → Ascends k (buckets_of s.buckets (by_buckets s symbols k n))
ascending s symbols k zero has = tt
ascending s symbols k (suc n) has =
    let here : List SymbolLine = filter (is_in s k) symbols in
    let rest : List SymbolLine = by_buckets s symbols (k + 1) n in
    let all : AllByRecursion (λ x. bucket_of s.buckets (hash_of x) ≡ k) here = all_passed (λ x. bucket_of s.buckets (hash_of x) ≡ k) (is_in s k) (λ x h. (in_bucket s k x has h).1) symbols in
    let more : Ascends k (buckets_of s.buckets rest) = from_lower k (k + 1) (buckets_of s.buckets rest) (omega arith) (ascending s symbols (k + 1) n has) in
    subst (Ascends k) (sym (buckets_append s.buckets here rest)) (equal_front k (buckets_of s.buckets here) (buckets_of s.buckets rest) (buckets_all s.buckets k here all) more)

-- ---- both parts

pub record IsOrdered (count : ℕ) (symbols : List SymbolLine) : Type 0 where
  pub others : List SymbolLine
  pub own : List SymbolLine
  pub parts : symbols ≡ others ++ own
  pub undefined : AllByRecursion (λ x. x.defined ≡ false) others
  pub defined : AllByRecursion (λ x. x.defined ≡ true) own
  pub ascending : Ascends 0 (buckets_of count own)

pub is_ordered : (s : Settings) (symbols : List SymbolLine) → s.hashes.gnu ≡ true → IsOrdered s.buckets (ordered s symbols)
unfolding ordered
is_ordered s symbols has = record {
  others = filter is_undefined symbols;
  own = by_buckets s symbols 0 s.buckets;
  parts = refl;
  undefined = all_passed (λ x. x.defined ≡ false) is_undefined (λ x h. not_true x.defined h) symbols;
  defined = all_parts (λ x. x.defined ≡ true) (λ b. filter (is_in s b) symbols) (range_with_len 0 s.buckets) (λ b. all_passed (λ x. x.defined ≡ true) (is_in s b) (λ x h. (in_bucket s b x has h).0) symbols);
  ascending = ascending s symbols 0 s.buckets has;
}

-- ---- the hashes of the defined ones, and how many others there are

pub own_hashes : (count : ℕ) (symbols : List SymbolLine) (o : IsOrdered count symbols) → gnu_hashes symbols ≡ map hash_of o.own
own_hashes count symbols o =
    ap (λ (l : List SymbolLine). gnu_hashes l) o.parts
    ∙ ap (λ (l : List SymbolLine). map hash_of l) (filter-append is_defined o.others o.own)
    ∙ ap (λ (l : List SymbolLine). map hash_of (l ++ filter is_defined o.own)) (filter_no is_defined o.others o.undefined)
    ∙ ap (λ (l : List SymbolLine). map hash_of l) (filter_all is_defined o.own o.defined)

own_not_counted : (x : SymbolLine) (xs : List SymbolLine) → x.defined ≡ true → count_by is_undefined (x ∷ xs) ≡ count_by is_undefined xs
own_not_counted x xs h =
    let none : ◌≡◌ {A = ℕ} (cond (is_undefined x) 1 0) 0 = rw h refl in
    omega (arith, sum_by-cons (λ y. cond (is_undefined y) 1 0) x xs, none)

other_counted : (x : SymbolLine) (xs : List SymbolLine) → x.defined ≡ false → count_by is_undefined (x ∷ xs) ≡ count_by is_undefined xs + 1
other_counted x xs h =
    let one : ◌≡◌ {A = ℕ} (cond (is_undefined x) 1 0) 1 = rw h refl in
    omega (arith, sum_by-cons (λ y. cond (is_undefined y) 1 0) x xs, one)

none_counted : (symbols : List SymbolLine) → AllByRecursion (λ x. x.defined ≡ true) symbols → count_by is_undefined symbols ≡ 0
none_counted [] all = refl
none_counted (x ∷ symbols) all = own_not_counted x symbols all.0 ∙ none_counted symbols all.1

counted : (others own : List SymbolLine) → AllByRecursion (λ x. x.defined ≡ false) others → AllByRecursion (λ x. x.defined ≡ true) own → count_by is_undefined (others ++ own) ≡ length others
counted [] own all defined = none_counted own defined
counted (x ∷ others) own all defined = omega (arith, other_counted x (others ++ own) all.0, counted others own all.1 defined)

pub others_counted : (count : ℕ) (symbols : List SymbolLine) (o : IsOrdered count symbols) → count_by is_undefined symbols ≡ length o.others
others_counted count symbols o = ap (λ (l : List SymbolLine). count_by is_undefined l) o.parts ∙ counted o.others o.own o.undefined o.defined
