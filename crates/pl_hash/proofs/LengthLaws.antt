-- The lengths of chains, as far as a walk has noted them.
use Rattle.std.proofs.Common.{◌≡◌, ℕ, zero, suc, ◌+◌, ◌-◌, ◌<◌, ◌≤◌, Bool, true, false, ◌&&◌, List, Option, Some, None, refl, sym, ap, ◌∙◌, arith, inl, inr, length, set, replicate}
use Rattle.std.specs.Prelude.{◌⊎◌, is_some, nat_le, slice_index}
use Rattle.std.specs.List.{list_all, range_with_len}
use Rattle.std.proofs.lemmas.Bool.{cases_Bool, true≢false, false≢true, le-leb}
use Rattle.std.proofs.lemmas.Bool.Decides.{nat_tests, eqb_tells}
use Rattle.std.proofs.lemmas.List.{get_or-set_same, get_or-set_other, length-set, length-replicate}
use Rattle.pl_hash.specs.Table.{HashTable}
use Rattle.pl_hash.specs.Table.{bucket_count}
use Rattle.pl_hash.specs.Chain.{chain, chain_from, chains_end, following, head, is_linked}
use Rattle.pl_hash.specs.Lengths.{EndsAfter, sum_of, IsLength, IsKnown, AreLengths}
use Rattle.pl_hash.proofs.ChainLaws.{chain_from-none, chain_from-zero, chain_from-linked, is_some-with_first}
use Rattle.pl_hash.proofs.ChainSymbolLaws.{IsLinked-from}

-- ---- one symbol of a chain

-- from a symbol with a link it takes one step more than from the following one
pub ends_some : (t : HashTable) (steps index : ℕ) → is_linked t index ≡ true → is_some (chain_from t steps (Some index)) ≡ (nat_le 1 steps && is_some (chain_from t (steps - 1) (following t index)))
ends_some t zero index linked = rw (chain_from-zero t index) refl
ends_some t (suc n) index linked =
    let less : suc n - 1 ≡ n = omega arith in
    rw (chain_from-linked t n index linked, is_some-with_first index (chain_from t n (following t index)), less, le-leb 1 (suc n) (omega arith)) refl

zero_least : (n : ℕ) → nat_le 0 n ≡ true
zero_least n = le-leb 0 n (omega arith)

pub none_after : (t : HashTable) → EndsAfter t None 0
none_after t steps = rw (chain_from-none t steps, zero_least steps) refl

no_link : (t : HashTable) (steps index : ℕ) → is_linked t index ≡ false → is_some (chain_from t steps (Some index)) ≡ false
unfolding chain_from
no_link t zero index e = refl
no_link t (suc n) index e = rw e refl

-- a chain of a length begins with a symbol that has a link
pub ends_linked : (t : HashTable) (index n : ℕ) → EndsAfter t (Some index) n → is_linked t index ≡ true
ends_linked t index n ends = elim (cases_Bool (is_linked t index)) [
  | inl hit ↦ hit
  | inr miss ↦ absurd (true≢false (sym (within n) ∙ sym (ends n) ∙ no_link t n index miss))
]
  where
    within : (n : ℕ) → nat_le n n ≡ true
    within n = le-leb n n (omega arith)

pub ends_length : (t : HashTable) (index n : ℕ) → EndsAfter t (Some index) n → 0 < n
ends_length t index zero ends = absurd (true≢false (sym (ends 0) ∙ rw (chain_from-zero t index) refl))
ends_length t index (suc n) ends = omega arith

-- and from the following one on it is one shorter
pub ends_next : (t : HashTable) (index n : ℕ) → EndsAfter t (Some index) n → EndsAfter t (following t index) (n - 1)
ends_next t index n ends = λ steps.
    let linked = ends_linked t index n ends in
    let less : suc steps - 1 ≡ steps = omega arith in
    let some : is_some (chain_from t (suc steps) (Some index)) ≡ is_some (chain_from t steps (following t index)) = ends_some t (suc steps) index linked ∙ rw (less, le-leb 1 (suc steps) (omega arith)) refl in
    sym some ∙ ends (suc steps) ∙ shorter n steps (ends_length t index n ends)
  where
    shorter : (n steps : ℕ) → 0 < n → nat_le n (suc steps) ≡ nat_le (n - 1) steps
    shorter n steps some = grind (arith, nat_tests)

-- ---- a walk along a chain

-- so many symbols of a chain were passed
abbrev pub Passed : HashTable → Option ℕ → ℕ → Option ℕ → Type 0
Passed t start passed at = (steps : ℕ) → is_some (chain_from t steps start) ≡ (nat_le passed steps && is_some (chain_from t (steps - passed) at))

pub none_passed : (t : HashTable) (start : Option ℕ) → Passed t start 0 start
none_passed t start = λ steps. let same : steps - 0 ≡ steps = omega arith in rw (same, zero_least steps) refl

three : (a b c x : Bool) → (a && b) ≡ c → (a && (b && x)) ≡ (c && x)
three true b c x e = ap (λ (d : Bool). d && x) e
three false b c x e = ap (λ (d : Bool). d && x) e

pub passed_more : (t : HashTable) (start : Option ℕ) (passed index : ℕ) → is_linked t index ≡ true → Passed t start passed (Some index) → Passed t start (passed + 1) (following t index)
passed_more t start passed index linked so_far = λ steps.
    let on : steps - passed - 1 ≡ steps - (passed + 1) = omega arith in
    so_far steps
    ∙ ap (λ (b : Bool). nat_le passed steps && b) (ends_some t (steps - passed) index linked)
    ∙ three (nat_le passed steps) (nat_le 1 (steps - passed)) (nat_le (passed + 1) steps) (is_some (chain_from t (steps - passed - 1) (following t index))) (both passed steps)
    ∙ ap (λ (k : ℕ). nat_le (passed + 1) steps && is_some (chain_from t k (following t index))) on
  where
    both : (p s : ℕ) → (nat_le p s && nat_le 1 (s - p)) ≡ nat_le (p + 1) s
    both p s = grind (arith, nat_tests)

-- a walk that comes to a chain of a length
pub passed_ends : (t : HashTable) (start at : Option ℕ) (passed n : ℕ) → Passed t start passed at → EndsAfter t at n → EndsAfter t start (passed + n)
passed_ends t start at passed n so_far ends = λ steps. so_far steps ∙ ap (λ (b : Bool). nat_le passed steps && b) (ends (steps - passed)) ∙ both passed n steps
  where
    both : (p n s : ℕ) → (nat_le p s && nat_le n (s - p)) ≡ nat_le (p + n) s
    both p n s = grind (arith, nat_tests)

-- the end of the chain
pub length_ended : (t : HashTable) (start : Option ℕ) (passed : ℕ) → passed ≤ t.symbols → Passed t start passed None → IsLength t start (Some passed)
length_ended t start passed le so_far =
    let none : passed + 0 ≡ passed = omega arith in
    (rw none at (passed_ends t start None passed 0 so_far (none_after t)), le)

and_none : (b : Bool) → (b && false) ≡ false
and_none true = refl
and_none false = refl

-- a symbol without a link
pub length_left : (t : HashTable) (start : Option ℕ) (passed index : ℕ) → is_linked t index ≡ false → Passed t start passed (Some index) → IsLength t start None
unfolding chain
length_left t start passed index miss so_far =
    so_far t.symbols ∙ ap (λ (b : Bool). nat_le passed t.symbols && b) (no_link t (t.symbols - passed) index miss) ∙ and_none (nat_le passed t.symbols)

-- a symbol behind as many as there are
length_over : (t : HashTable) (start : Option ℕ) (passed index : ℕ) → t.symbols ≤ passed → Passed t start passed (Some index) → IsLength t start None
unfolding chain
length_over t start passed index le so_far =
    let none : t.symbols - passed ≡ 0 = omega (arith, le) in
    so_far t.symbols ∙ ap (λ (k : ℕ). nat_le passed t.symbols && is_some (chain_from t k (Some index))) none
    ∙ ap (λ (o : Option (List ℕ)). nat_le passed t.symbols && is_some o) (chain_from-zero t index) ∙ and_none (nat_le passed t.symbols)

-- the same by whether there is a symbol
pub length_more : (t : HashTable) (start : Option ℕ) (passed : ℕ) (at : Option ℕ) → t.symbols ≤ passed → is_some at ≡ true → Passed t start passed at → IsLength t start None
length_more t start passed None le some so_far = absurd (false≢true some)
length_more t start passed (Some index) le some so_far = length_over t start passed index le so_far

pub length_whole : (t : HashTable) (start : Option ℕ) (passed : ℕ) (at : Option ℕ) → passed ≤ t.symbols → is_some at ≡ false → Passed t start passed at → IsLength t start (Some passed)
length_whole t start passed None le none so_far = length_ended t start passed le so_far
length_whole t start passed (Some index) le none so_far = absurd (true≢false none)

-- a symbol from which the length is known
pub length_known : (t : HashTable) (start : Option ℕ) (passed index known : ℕ) → passed ≤ t.symbols → EndsAfter t (Some index) known → Passed t start passed (Some index) → IsLength t start (sum_of t passed known)
unfolding chain
length_known t start passed index known le ends so_far =
    let whole = passed_ends t start (Some index) passed known so_far ends in
    elim (cases_Bool (nat_le known (t.symbols - passed))) [
      | inl hit ↦ rw hit (whole, fits passed known t.symbols le hit)
      | inr miss ↦ rw miss (whole t.symbols ∙ over passed known t.symbols miss)
    ]
  where
    fits : (p n s : ℕ) → p ≤ s → nat_le n (s - p) ≡ true → p + n ≤ s
    fits p n s le h = grind (arith, nat_tests)

    over : (p n s : ℕ) → nat_le n (s - p) ≡ false → nat_le (p + n) s ≡ false
    over p n s h = grind (arith, nat_tests)

-- ---- lengths that are noted

-- what holds while a chain is noted: of each symbol with a length the following one has one too, or is next
pub record AreNoted (t : HashTable) (old lengths : List ℕ) (start at : Option ℕ) (left : ℕ) : Type 0 where
  pub size : length lengths ≡ t.symbols
  pub right : (i : ℕ) → 0 < slice_index lengths i → EndsAfter t (Some i) (slice_index lengths i)
  pub later : (i : ℕ) → 0 < slice_index lengths i → IsKnown lengths (following t i) ⊎ (following t i ≡ at)
  pub more : (i : ℕ) → 0 < slice_index old i → 0 < slice_index lengths i
  pub begun : IsKnown lengths start ⊎ (start ≡ at)
  pub ends : EndsAfter t at left

pub begin_notes : (t : HashTable) (lengths : List ℕ) (start : Option ℕ) (count : ℕ) → AreLengths t lengths → EndsAfter t start count → AreNoted t lengths lengths start start count
begin_notes t lengths start count are ends = record { size = are.size; right = are.right; later = λ i some. inl (are.closed i some); more = λ i some. some; begun = inr refl; ends = ends }

-- a symbol's length noted
set_at : (lengths : List ℕ) (index left i : ℕ) → index < length lengths → i ≡ index → slice_index (set lengths index left) i ≡ left
set_at lengths index left i lt e = rw e (get_or-set_same lengths index left 0 lt)

set_other : (lengths : List ℕ) (index left i : ℕ) → (i ≡ index → ⊥) → slice_index (set lengths index left) i ≡ slice_index lengths i
set_other lengths index left i ne = get_or-set_other lengths index i left 0 ne

still_some : (lengths : List ℕ) (index left i : ℕ) → index < length lengths → 0 < left → 0 < slice_index lengths i → 0 < slice_index (set lengths index left) i
still_some lengths index left i lt some had = elim (eqb_tells i index) [
  | inl e ↦ rw (set_at lengths index left i lt e.1) some
  | inr e ↦ rw (set_other lengths index left i e.1) had
]

still_known : (lengths : List ℕ) (index left : ℕ) (at : Option ℕ) → index < length lengths → 0 < left → IsKnown lengths at → IsKnown (set lengths index left) at
still_known lengths index left None lt some known = tt
still_known lengths index left (Some i) lt some known = still_some lengths index left i lt some known

now_known : (lengths : List ℕ) (index left : ℕ) → index < length lengths → 0 < left → IsKnown (set lengths index left) (Some index)
now_known lengths index left lt some = rw (set_at lengths index left index lt refl) some

either_known : (lengths : List ℕ) (index left : ℕ) (x : Option ℕ) → index < length lengths → 0 < left → IsKnown lengths x ⊎ (x ≡ Some index) → IsKnown (set lengths index left) x
either_known lengths index left x lt some (inl known) = still_known lengths index left x lt some known
either_known lengths index left x lt some (inr e) = rw e (now_known lengths index left lt some)

pub note_one : (t : HashTable) (old lengths : List ℕ) (start : Option ℕ) (index left : ℕ) → AreNoted t old lengths start (Some index) left → AreNoted t old (set lengths index left) start (following t index) (left - 1)
note_one t old lengths start index left are =
    let some = ends_length t index left are.ends in
    let link = IsLinked-from t index (ends_linked t index left are.ends) in
    let lt : index < length lengths = omega (arith, link.below, are.size) in
    record {
      size = length-set lengths index left ∙ are.size;
      right = λ i had. elim (eqb_tells i index) [
        | inl e ↦ rw (set_at lengths index left i lt e.1, e.1) are.ends
        | inr e ↦ let same = set_other lengths index left i e.1 in rw same (are.right i (rw same at had))
      ];
      later = λ i had. elim (eqb_tells i index) [
        | inl e ↦ inr (ap (following t) e.1)
        | inr e ↦ let same = set_other lengths index left i e.1 in inl (either_known lengths index left (following t i) lt some (are.later i (rw same at had)))
      ];
      more = λ i had. still_some lengths index left i lt some (are.more i had);
      begun = inl (either_known lengths index left start lt some are.begun);
      ends = ends_next t index left are.ends;
    }

-- the walk has come to a symbol whose length is known, or to the end
pub notes_done : (t : HashTable) (old lengths : List ℕ) (start at : Option ℕ) (left : ℕ) → AreNoted t old lengths start at left → IsKnown lengths at → AreLengths t lengths × IsKnown lengths start
notes_done t old lengths start at left are known = (
  record { size = are.size; right = are.right; closed = λ i had. by (following t i) (are.later i had) },
  by start are.begun,
)
  where
    by : (x : Option ℕ) → IsKnown lengths x ⊎ (x ≡ at) → IsKnown lengths x
    by x (inl here) = here
    by x (inr e) = rw e known

-- ---- all chains

zero_at : (n i : ℕ) → slice_index (replicate n 0) i ≡ 0
zero_at zero i = refl
zero_at (suc n) zero = refl
zero_at (suc n) (suc i) = zero_at n i

pub none_noted : (t : HashTable) (lengths : List ℕ) → lengths ≡ replicate t.symbols 0 → AreLengths t lengths
none_noted t lengths is =
    let none : (i : ℕ) → 0 < slice_index lengths i → ⊥ = λ i had. absurd (omega (arith, had, ap (λ (xs : List ℕ). slice_index xs i) is, zero_at t.symbols i)) in
    record { size = ap length is ∙ length-replicate t.symbols 0; right = λ i had. absurd (none i had); closed = λ i had. absurd (none i had) }

pub known_more : (old lengths : List ℕ) (at : Option ℕ) → ((i : ℕ) → 0 < slice_index old i → 0 < slice_index lengths i) → IsKnown old at → IsKnown lengths at
known_more old lengths None more known = tt
known_more old lengths (Some i) more known = more i known

all_in_range : (p : ℕ → Bool) (from n : ℕ) → ((i : ℕ) → i < n → p (from + i) ≡ true) → list_all p (range_with_len from n) ≡ true
all_in_range p from zero all = refl
all_in_range p from (suc n) all =
    let here : p from ≡ true = ap p (omega arith) ∙ all 0 (omega arith) in
    rw (here, all_in_range p (from + 1) n (λ i lt. ap p (omega arith) ∙ all (suc i) (omega (arith, lt)))) refl

pub all_end : (t : HashTable) → ((k : ℕ) → k < bucket_count t → is_some (chain t (head t k)) ≡ true) → chains_end t ≡ true
unfolding chains_end
all_end t all = all_in_range (λ k. is_some (chain t (head t k))) 0 (bucket_count t) (λ k lt. let same : 0 + k ≡ k = omega arith in rw same (all k lt))

not_in_range : (p : ℕ → Bool) (from n i : ℕ) → i < n → p (from + i) ≡ false → list_all p (range_with_len from n) ≡ false
not_in_range p from zero i lt e = absurd (omega (arith, lt))
not_in_range p from (suc n) zero lt e = let here : p from ≡ false = ap p (omega arith) ∙ e in rw here refl
not_in_range p from (suc n) (suc i) lt e = rw (not_in_range p (from + 1) n i (omega (arith, lt)) (ap p (omega arith) ∙ e)) (and_none (p from))

pub one_ends_not : (t : HashTable) (k : ℕ) → k < bucket_count t → is_some (chain t (head t k)) ≡ false → chains_end t ≡ false
unfolding chains_end
one_ends_not t k lt e = not_in_range (λ k. is_some (chain t (head t k))) 0 (bucket_count t) k lt (let same : 0 + k ≡ k = omega arith in rw same e)

-- a chain of a length that is at most the count of symbols ends
pub length_ends : (t : HashTable) (start : Option ℕ) (n : ℕ) → EndsAfter t start n → n ≤ t.symbols → is_some (chain t start) ≡ true
unfolding chain
length_ends t start n ends le = ends t.symbols ∙ le-leb n t.symbols le

-- what holds while all chains are noted
pub record AllNoted (t : HashTable) (lengths : List ℕ) (k : ℕ) : Type 0 where
  pub are : AreLengths t lengths
  pub heads : (j : ℕ) → j < k → IsKnown lengths (head t j)
  pub ends : (j : ℕ) → j < k → is_some (chain t (head t j)) ≡ true

pub one_noted : (t : HashTable) (old lengths : List ℕ) (k n : ℕ) → AllNoted t old k → AreLengths t lengths → IsKnown lengths (head t k) → ((i : ℕ) → 0 < slice_index old i → 0 < slice_index lengths i)
    → EndsAfter t (head t k) n → n ≤ t.symbols → AllNoted t lengths (k + 1)
one_noted t old lengths k n all are known more ends le = record {
  are = are;
  heads = λ j lt. elim (eqb_tells j k) [
    | inl e ↦ rw e.1 known
    | inr e ↦ known_more old lengths (head t j) more (all.heads j (less j k lt e.1))
  ];
  ends = λ j lt. elim (eqb_tells j k) [
    | inl e ↦ rw e.1 (length_ends t (head t k) n ends le)
    | inr e ↦ all.ends j (less j k lt e.1)
  ];
}
  where
    less : (j k : ℕ) → j < k + 1 → (j ≡ k → ⊥) → j < k
    less j k lt ne = grind arith
