-- Packed words in the order of their offsets.
use Rattle.std.proofs.Common.{◌≡◌, ℕ, suc, ◌<◌, ◌≤◌, Bool, true, false, List, [], ◌∷◌, ◌++◌, length, drop, get_or, refl, sym, ap, ◌∙◌, append_assoc, arith, inl, inr}
use Rattle.std.specs.Prelude.{◌&&◌, ◌==◌, filter, fold, nat_lt, not}
use Rattle.std.specs.List.Sorted.{IsNonDecreasingBy, IsStableByKey, ties}
use Rattle.std.specs.Ordering.{is_lt, nat_cmp}
use Rattle.std.proofs.lemmas.Bool.{cases_Bool, cases_order, eq-eqb, eqb-true, leb-false, leb-true, ne_eqb}
use Rattle.std.proofs.lemmas.Bool.Decides.{nat_tests}
use Rattle.std.proofs.lemmas.List.{append-nil}
use Rattle.std.proofs.lemmas.List.Elements.{filter-append, filter_agree}
use Rattle.std.proofs.lemmas.List.Sums.{fold-append}
use Rattle.pl_build.specs.Recipe.{added, empty, gathered, in_order, inserted, is_up_to, sorted_recipe, pushed}
use Rattle.pl_build.specs.declared.line.Line.{Line}
use Rattle.pl_build.specs.declared.line.Line.TheVariants.{Wrong, Empty, First, Usual, Hash, Buckets, Spare, Needs, Symbolic, Entry, Data, Bss, Put, Tls, Version, Names, Relocates, Packs}
use Rattle.pl_build.specs.declared.line.PackedWord.{PackedWord}
use Rattle.pl_build.specs.declared.recipe.Recipe.{Recipe}

-- ---- words that rise

-- no offset is below a number
abbrev AtLeast : ℕ → List PackedWord → Type 0
AtLeast n [] = Unit {0}
AtLeast n (w ∷ ws) = (n ≤ w.offset) × AtLeast n ws

abbrev Rises : List PackedWord → Type 0
Rises [] = Unit {0}
Rises (w ∷ ws) = AtLeast w.offset ws × Rises ws

lower : (m n : ℕ) (ws : List PackedWord) → m ≤ n → AtLeast n ws → AtLeast m ws
lower m n [] le least = tt
lower m n (w ∷ ws) le least = (omega (arith, le, least.0), lower m n ws le least.1)

least_from : (n : ℕ) (ws : List PackedWord) → ((k : ℕ) (d : PackedWord) → k < length ws → n ≤ (get_or ws k d).offset) → AtLeast n ws
least_from n [] each = tt
least_from n (w ∷ ws) each = (each 0 w (omega arith), least_from n ws (λ k d lt. each (suc k) d (omega (arith, lt))))

rises_from : (ws : List PackedWord) → IsNonDecreasingBy (λ w. w.offset) ws → Rises ws
rises_from [] sorted = tt
rises_from (w ∷ ws) sorted = (
  least_from w.offset ws (λ k d lt. sorted 0 (suc k) d (omega arith) (omega (arith, lt))),
  rises_from ws (λ i j d le lt. sorted (suc i) (suc j) d (omega (arith, le)) (omega (arith, lt))),
)

-- ---- the words of one offset

abbrev has_offset : ℕ → PackedWord → Bool
has_offset n w = w.offset == n

-- the words of an offset that is below all
none_at : (m n : ℕ) (ws : List PackedWord) → m < n → AtLeast n ws → filter (has_offset m) ws ≡ []
none_at m n [] lt least = refl
none_at m n (w ∷ ws) lt least =
    let miss : has_offset m w ≡ false = ne_eqb w.offset m (λ same. omega (arith, lt, least.0, same)) in
    rw miss (none_at m n ws lt least.1)

first_at : (w : PackedWord) (ws : List PackedWord) → filter (has_offset w.offset) (w ∷ ws) ≡ w ∷ filter (has_offset w.offset) ws
first_at w ws = let here : has_offset w.offset w ≡ true = eq-eqb w.offset w.offset refl in rw here refl

other_at : (n : ℕ) (w : PackedWord) (ws : List PackedWord) → has_offset n w ≡ false → filter (has_offset n) (w ∷ ws) ≡ filter (has_offset n) ws
other_at n w ws miss = rw miss refl

no_words : (w : PackedWord) (ws : List PackedWord) → [] ≡ w ∷ ws → ⊥
no_words w ws e = cc

tails : (u v : PackedWord) (us vs : List PackedWord) → u ∷ us ≡ v ∷ vs → us ≡ vs
tails u v us vs e = ap (drop 1) e

heads : (u v : PackedWord) (us vs : List PackedWord) → u ∷ us ≡ v ∷ vs → u ≡ v
heads u v us vs e = ap (λ (ws : List PackedWord). get_or ws 0 u) e

-- what follows words that are the same
same_tails : (u v : PackedWord) (us vs : List PackedWord) (n : ℕ) → u ≡ v → filter (has_offset n) (u ∷ us) ≡ filter (has_offset n) (v ∷ vs) → filter (has_offset n) us ≡ filter (has_offset n) vs
same_tails u v us vs n is same = elim (cases_Bool (has_offset n v)) [
  | inl hit ↦
      let first : filter (has_offset n) (u ∷ us) ≡ u ∷ filter (has_offset n) us = let one : has_offset n u ≡ true = ap (has_offset n) is ∙ hit in rw one refl in
      let second : filter (has_offset n) (v ∷ vs) ≡ v ∷ filter (has_offset n) vs = rw hit refl in
      tails u v (filter (has_offset n) us) (filter (has_offset n) vs) (sym first ∙ same ∙ second)
  | inr miss ↦ sym (other_at n u us (ap (has_offset n) is ∙ miss)) ∙ same ∙ other_at n v vs miss
]

same_first : (u v : PackedWord) (us vs : List PackedWord) → ((n : ℕ) → filter (has_offset n) (u ∷ us) ≡ filter (has_offset n) (v ∷ vs)) → (((n : ℕ) → filter (has_offset n) us ≡ filter (has_offset n) vs) → us ≡ vs) → u.offset ≡ v.offset → u ∷ us ≡ v ∷ vs
same_first u v us vs same rest here =
    let hit : has_offset u.offset v ≡ true = eq-eqb v.offset u.offset (sym here) in
    let second : filter (has_offset u.offset) (v ∷ vs) ≡ v ∷ filter (has_offset u.offset) vs = rw hit refl in
    let is : u ≡ v = heads u v (filter (has_offset u.offset) us) (filter (has_offset u.offset) vs) (sym (first_at u us) ∙ same u.offset ∙ second) in
    ap (λ (w : PackedWord). w ∷ us) is ∙ ap (λ (ws : List PackedWord). v ∷ ws) (rest (λ n. same_tails u v us vs n is (same n)))

-- lists that rise and have the same words of each offset in one order are the same
only_one : (us vs : List PackedWord) → Rises us → Rises vs → ((n : ℕ) → filter (has_offset n) us ≡ filter (has_offset n) vs) → us ≡ vs
only_one [] [] up too same = refl
only_one [] (v ∷ vs) up too same = absurd (no_words v (filter (has_offset v.offset) vs) (same v.offset ∙ first_at v vs))
only_one (u ∷ us) [] up too same = absurd (no_words u (filter (has_offset u.offset) us) (sym (same u.offset) ∙ first_at u us))
only_one (u ∷ us) (v ∷ vs) up too same = elim (cases_order u.offset v.offset) [
  | inl here ↦ same_first u v us vs same (only_one us vs up.1 too.1) here
  | inr apart ↦ elim apart [
    | inl below ↦ absurd (no_words u (filter (has_offset u.offset) us) (sym (none_at u.offset v.offset (v ∷ vs) below (omega arith, too.0)) ∙ sym (same u.offset) ∙ first_at u us))
    | inr above ↦ absurd (no_words v (filter (has_offset v.offset) vs) (sym (none_at v.offset u.offset (u ∷ us) above (omega arith, up.0)) ∙ same v.offset ∙ first_at v vs))
  ]
]

-- ---- one word after the other

inserted_least : (n : ℕ) (w : PackedWord) (vs : List PackedWord) → n ≤ w.offset → AtLeast n vs → AtLeast n (inserted w vs)
inserted_least n w [] le least = (le, tt)
inserted_least n w (v ∷ vs) le least = elim (cases_Bool (is_up_to w v)) [
  | inl before ↦ rw before (least.0, inserted_least n w vs le least.1)
  | inr after ↦ rw after (le, (least.0, least.1))
]

inserted_rises : (w : PackedWord) (vs : List PackedWord) → Rises vs → Rises (inserted w vs)
inserted_rises w [] up = (tt, tt)
inserted_rises w (v ∷ vs) up = elim (cases_Bool (is_up_to w v)) [
  | inl before ↦ rw before (inserted_least v.offset w vs (leb-true v.offset w.offset before) up.0, inserted_rises w vs up.1)
  | inr after ↦
      let le : w.offset ≤ v.offset = let lt : w.offset < v.offset = leb-false v.offset w.offset after in omega (arith, lt) in
      rw after ((le, lower w.offset v.offset vs le up.0), up)
]

-- a word before others
goes_before : (n : ℕ) (w v : PackedWord) (vs : List PackedWord) (b : Bool) → has_offset n w ≡ b → w.offset < v.offset → Rises (v ∷ vs) → filter (has_offset n) (w ∷ v ∷ vs) ≡ filter (has_offset n) (v ∷ vs) ++ filter (has_offset n) (w ∷ [])
goes_before n w v vs true hit lt up =
    let is : w.offset ≡ n = eqb-true w.offset n hit in
    let none : filter (has_offset n) (v ∷ vs) ≡ [] = none_at n v.offset (v ∷ vs) (omega (arith, lt, is)) (omega arith, up.0) in
    let one : filter (has_offset n) (w ∷ []) ≡ w ∷ [] = rw hit refl in
    let all : filter (has_offset n) (w ∷ v ∷ vs) ≡ w ∷ filter (has_offset n) (v ∷ vs) = rw hit refl in
    all ∙ ap (λ (ws : List PackedWord). w ∷ ws) none ∙ sym (ap (λ (ws : List PackedWord). ws ++ filter (has_offset n) (w ∷ [])) none ∙ one)
goes_before n w v vs false miss lt up =
    let one : filter (has_offset n) (w ∷ []) ≡ [] = rw miss refl in
    other_at n w (v ∷ vs) miss ∙ sym (ap (λ (ws : List PackedWord). filter (has_offset n) (v ∷ vs) ++ ws) one ∙ append-nil (filter (has_offset n) (v ∷ vs)))

-- and behind one
goes_behind : (n : ℕ) (w v : PackedWord) (vs : List PackedWord) (b : Bool) → has_offset n v ≡ b → filter (has_offset n) (inserted w vs) ≡ filter (has_offset n) vs ++ filter (has_offset n) (w ∷ []) → filter (has_offset n) (v ∷ inserted w vs) ≡ filter (has_offset n) (v ∷ vs) ++ filter (has_offset n) (w ∷ [])
goes_behind n w v vs true hit rest = rw hit (ap (λ (ws : List PackedWord). v ∷ ws) rest)
goes_behind n w v vs false miss rest = rw miss rest

inserted_at : (n : ℕ) (w : PackedWord) (vs : List PackedWord) → Rises vs → filter (has_offset n) (inserted w vs) ≡ filter (has_offset n) vs ++ filter (has_offset n) (w ∷ [])
inserted_at n w [] up = refl
inserted_at n w (v ∷ vs) up = elim (cases_Bool (is_up_to w v)) [
  | inl before ↦ rw before (goes_behind n w v vs (has_offset n v) refl (inserted_at n w vs up.1))
  | inr after ↦ rw after (goes_before n w v vs (has_offset n w) refl (leb-false v.offset w.offset after) up)
]

-- ---- all words

abbrev all_in : List PackedWord → List PackedWord → List PackedWord
all_in sorted ws = fold (λ sorted w. inserted w sorted) sorted ws

all_rise : (sorted ws : List PackedWord) → Rises sorted → Rises (all_in sorted ws)
all_rise sorted [] up = up
all_rise sorted (w ∷ ws) up = all_rise (inserted w sorted) ws (inserted_rises w sorted up)

all_at : (n : ℕ) (sorted ws : List PackedWord) → Rises sorted → filter (has_offset n) (all_in sorted ws) ≡ filter (has_offset n) sorted ++ filter (has_offset n) ws
all_at n sorted [] up = sym (append-nil (filter (has_offset n) sorted))
all_at n sorted (w ∷ ws) up =
    all_at n (inserted w sorted) ws (inserted_rises w sorted up)
    ∙ ap (λ (vs : List PackedWord). vs ++ filter (has_offset n) ws) (inserted_at n w sorted up)
    ∙ append_assoc (filter (has_offset n) sorted) (filter (has_offset n) (w ∷ [])) (filter (has_offset n) ws)
    ∙ ap (λ (vs : List PackedWord). filter (has_offset n) sorted ++ vs) (sym (filter-append (has_offset n) (w ∷ []) ws))

lt_is : (m n : ℕ) → is_lt (nat_cmp m n) ≡ nat_lt m n
lt_is m n = elim (cases_Bool (nat_lt m n)) [
  | inl less ↦ rw less refl
  | inr not_less ↦ elim (cases_Bool (m == n)) [
    | inl same ↦ rw (not_less, same) refl
    | inr other ↦ rw (not_less, other) refl
  ]
]

tie_is : (m n : ℕ) → (not (is_lt (nat_cmp m n)) && not (is_lt (nat_cmp n m))) ≡ (n == m)
tie_is m n = rw (lt_is m n, lt_is n m) (let tests : (not (nat_lt m n) && not (nat_lt n m)) ≡ (n == m) = grind (arith, nat_tests) in tests)

-- a stable sort puts them where they are inserted
pub sorted_in_order : (ws sorted : List PackedWord) → IsNonDecreasingBy (λ w. w.offset) sorted → IsStableByKey (λ w. w.offset) nat_cmp ws sorted → sorted ≡ in_order ws
unfolding in_order
sorted_in_order ws sorted rising stable =
    only_one sorted (all_in [] ws) (rises_from sorted rising) (all_rise [] ws tt) (λ n.
    let x : PackedWord = record { offset = n; addend = record { negative = false; magnitude = 0 } } in
    let tie : PackedWord → Bool = ties (λ y z. is_lt (nat_cmp y.offset z.offset)) x in
    let same : (w : PackedWord) → tie w ≡ has_offset n w = λ w. tie_is n w.offset in
    sym (filter_agree tie (has_offset n) same sorted) ∙ stable x ∙ filter_agree tie (has_offset n) same ws ∙ sym (all_at n [] ws tt))

-- ---- all lines

in_order_push : (r : Recipe) (w : PackedWord) → in_order (r.packed ++ w ∷ []) ≡ inserted w (in_order r.packed)
unfolding in_order
in_order_push r w = fold-append (λ sorted w. inserted w sorted) [] r.packed (w ∷ [])

one_line : (r : Recipe) (l : Line) → sorted_recipe (pushed r l) ≡ added (sorted_recipe r) l
one_line r Wrong = refl
one_line r Empty = refl
one_line r (First k) = refl
one_line r Usual = refl
one_line r (Hash h) = refl
one_line r (Buckets n) = refl
one_line r (Spare n) = refl
one_line r (Needs n) = refl
one_line r Symbolic = refl
one_line r (Entry n) = refl
one_line r (Data n) = refl
one_line r (Bss n) = refl
one_line r (Put w) = refl
one_line r (Tls t) = refl
one_line r (Version v) = refl
one_line r (Names s) = refl
one_line r (Relocates x) = refl
one_line r (Packs w) = ap (λ (ws : List PackedWord). record r { packed = ws }) (in_order_push r w)

all_lines : (r : Recipe) (lines : List Line) → sorted_recipe (fold pushed r lines) ≡ fold added (sorted_recipe r) lines
all_lines r [] = refl
all_lines r (l ∷ lines) = all_lines (pushed r l) lines ∙ ap (λ (s : Recipe). fold added s lines) (one_line r l)

pub gathered_in_order : (lines : List Line) → sorted_recipe (fold pushed empty lines) ≡ gathered lines
unfolding gathered in_order
gathered_in_order lines = all_lines empty lines
