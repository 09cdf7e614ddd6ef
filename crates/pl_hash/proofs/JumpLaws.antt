-- Jumps of so many steps lead from the head of a bucket's chain to each of its symbols, and to no other.
use Rattle.std.proofs.Common.{◌≡◌, ℕ, zero, suc, ◌+◌, ◌-◌, ◌*◌, ◌/◌, ◌^◌, ◌<◌, ◌≤◌, Bool, true, false, cond, eqb, ◌&&◌, ◌||◌, List, [], ◌∷◌, Option, Some, None, Result, Ok, Err, refl, sym, ap, ◌∙◌, arith, inl, inr, length, length-append, get_or, map, ◌++◌}
use Rattle.std.specs.Bool.{OnTrue}
use Rattle.std.specs.Prelude.{◌⊎◌, IfOk, IsSome, filter, ◌%◌, ◌==◌, nat_le, nat_lt, slice_index}
use Rattle.std.specs.List.{list_all, range_with_len}
use Rattle.std.specs.Option.{unwrap_or}
use Rattle.std.proofs.lemmas.Bool.{cases_Bool, and_parts, eqb-true, leb-true, le-leb, false≢true, OnTrue_from}
use Rattle.std.proofs.lemmas.Bool.Decides.{nat_tests, eqb_tells}
use Rattle.std.proofs.lemmas.List.{length-map}
use Rattle.std.proofs.lemmas.Nat.{mod_below}
use Rattle.std.proofs.Math.Bool.{and-false}
use Rattle.pl_hash.specs.Table.{HashTable}
use Rattle.pl_hash.specs.declared.jumps.Query.{Query}
use Rattle.pl_hash.specs.Table.{bucket_count, admits, matches}
use Rattle.pl_hash.specs.Chain.{chain, chain_from, following, head, is_linked, well_formed, IsWellFormed}
use Rattle.pl_hash.specs.ChainSymbols.{matching, chain_symbols, is_chain_symbol}
use Rattle.pl_hash.specs.Lengths.{EndsAfter, IsKnown, AreLengths, HasLengths}
use Rattle.pl_hash.specs.Jumps.{next_in_chain, reach, jump, AreJumps, advanced, is_at, is_reached}
use Rattle.pl_hash.specs.Queries.{nowhere, query_at, place_at, IsQuery, AreQueries, AreAnswered, all_done}
use Rattle.pl_hash.proofs.ChainLaws.{chain_from-none}
use Rattle.pl_hash.proofs.ChainSymbolLaws.{has, opens, follows, chain_value, IsLinked-from}
use Rattle.pl_hash.proofs.WholeLaws.{IsWellFormed-from}
use Rattle.pl_hash.proofs.LengthLaws.{ends_length, ends_next}

-- the symbols of a chain
abbrev pub chain_of : HashTable → Option ℕ → List ℕ
chain_of t start = unwrap_or (chain t start) []

-- ---- what a hash leads to

has_passing_by : (p : ℕ → Bool) (i x : ℕ) (xs : List ℕ) (b : Bool) → p x ≡ b → has i (filter p xs) ≡ (has i xs && p i)
    → has i (cond b (x ∷ filter p xs) (filter p xs)) ≡ ((eqb x i || has i xs) && p i)
has_passing_by p i x xs true e more =
    elim (eqb_tells x i) [
      | inl same ↦ rw same.0 (sym (ap p (sym same.1) ∙ e))
      | inr differ ↦ rw differ.0 more
    ]
has_passing_by p i x xs false e more =
    elim (eqb_tells x i) [
      | inl same ↦
          let fails : p i ≡ false = ap p (sym same.1) ∙ e in
          rw same.0 (more ∙ ap (λ (c : Bool). has i xs && c) fails ∙ and-false (has i xs) ∙ sym fails)
      | inr differ ↦ rw differ.0 more
    ]

has_passing : (p : ℕ → Bool) (i : ℕ) (xs : List ℕ) → has i (filter p xs) ≡ (has i xs && p i)
has_passing p i [] = refl
has_passing p i (x ∷ xs) = has_passing_by p i x xs (p x) refl (has_passing p i xs)

own_is : (h m a : Bool) → (h && ((true && m) && a)) ≡ cond a (h && m) false
own_is true true true = refl
own_is true true false = refl
own_is true false true = refl
own_is true false false = refl
own_is false true true = refl
own_is false true false = refl
own_is false false true = refl
own_is false false false = refl

has_if : (a : Bool) (i : ℕ) (xs : List ℕ) → has i (cond a xs []) ≡ cond a (has i xs) false
has_if true i xs = refl
has_if false i xs = refl

chain_symbol_is : (t : HashTable) (hash i : ℕ) → (has i (chain_of t (head t (hash % bucket_count t))) && ((true && matches t hash i) && admits t hash)) ≡ is_chain_symbol t hash i
unfolding chain_symbols matching
chain_symbol_is t hash i =
    let xs = chain_of t (head t (hash % bucket_count t)) in
    own_is (has i xs) (matches t hash i) (admits t hash)
    ∙ ap (λ (b : Bool). cond (admits t hash) b false) (sym (has_passing (matches t hash) i xs))
    ∙ sym (has_if (admits t hash) i (filter (matches t hash) xs))

-- ---- steps

reach_none : (t : HashTable) (n : ℕ) → reach t n None ≡ None
unfolding reach
reach_none t zero = refl
reach_none t (suc n) = refl

reach_more : (t : HashTable) (m n : ℕ) (at : Option ℕ) → reach t (m + n) at ≡ reach t n (reach t m at)
unfolding reach
reach_more t zero n at = ap (λ (k : ℕ). reach t k at) (omega arith)
reach_more t (suc m) n None = reach_none t (suc m + n) ∙ sym (reach_none t n)
reach_more t (suc m) n (Some index) =
    let e : suc m + n ≡ suc (m + n) = omega arith in
    ap (λ (k : ℕ). reach t k (Some index)) e ∙ reach_more t m n (next_in_chain t index)

unlinked : (t : HashTable) (index : ℕ) → t.symbols ≤ index → next_in_chain t index ≡ None
unfolding next_in_chain
unlinked t index le = elim (cases_Bool (is_linked t index)) [
  | inl hit ↦ absurd (let l = IsLinked-from t index hit in omega (arith, l.below, le))
  | inr miss ↦ rw miss refl
]

at_range : (f : ℕ → Option ℕ) (from n i : ℕ) → i < n → get_or (map f (range_with_len from n)) i None ≡ f (from + i)
at_range f from zero i lt = absurd (omega (arith, lt))
at_range f from (suc n) zero lt = ap f (omega arith)
at_range f from (suc n) (suc i) lt = at_range f (from + 1) n i (omega (arith, lt)) ∙ ap f (omega arith)

past_range : (f : ℕ → Option ℕ) (from n i : ℕ) → n ≤ i → get_or (map f (range_with_len from n)) i None ≡ None
past_range f from zero i le = refl
past_range f from (suc n) zero le = absurd (omega (arith, le))
past_range f from (suc n) (suc i) le = past_range f (from + 1) n i (omega (arith, le))

-- the jumps of one step
pub one_step : (t : HashTable) (jumps : List (Option ℕ)) → jumps ≡ map (next_in_chain t) (range_with_len 0 t.symbols) → AreJumps t 1 jumps
unfolding reach
one_step t jumps is None = refl
one_step t jumps is (Some index) = elim (cases_Bool (nat_lt index t.symbols)) [
  | inl hit ↦ rw is (at_range (next_in_chain t) 0 t.symbols index (below index t.symbols hit) ∙ ap (next_in_chain t) (omega arith))
  | inr miss ↦ rw is (past_range (next_in_chain t) 0 t.symbols index (above index t.symbols miss) ∙ sym (unlinked t index (above index t.symbols miss)))
]
  where
    below : (i n : ℕ) → nat_lt i n ≡ true → i < n
    below i n h = grind (arith, nat_tests)

    above : (i n : ℕ) → nat_lt i n ≡ false → n ≤ i
    above i n h = grind (arith, nat_tests)

at_jumps : (jumps xs : List (Option ℕ)) (i : ℕ) → get_or (map (jump jumps) xs) i None ≡ jump jumps (get_or xs i None)
at_jumps jumps [] i = refl
at_jumps jumps (x ∷ xs) zero = refl
at_jumps jumps (x ∷ xs) (suc i) = at_jumps jumps xs i

-- twice as many steps
pub twice : (t : HashTable) (n : ℕ) (jumps new : List (Option ℕ)) → AreJumps t n jumps → new ≡ map (jump jumps) jumps → AreJumps t (n + n) new
twice t n jumps new are is None = sym (reach_none t (n + n))
twice t n jumps new are is (Some index) =
    rw is (at_jumps jumps jumps index) ∙ ap (jump jumps) (are (Some index)) ∙ are (reach t n (Some index)) ∙ sym (reach_more t n n (Some index))

-- ---- a query goes on

halves : (n left : ℕ) → n * left ≡ n * (left % 2) + (n + n) * (left / 2)
halves n left =
    let e : left ≡ left % 2 + 2 * (left / 2) = omega arith in
    let d : n * (left % 2 + 2 * (left / 2)) ≡ n * (left % 2) + (n + n) * (left / 2) = split n (left % 2) (left / 2) in
    ap (λ (k : ℕ). n * k) e ∙ d
  where
    split : (n r q : ℕ) → n * (r + 2 * q) ≡ n * r + (n + n) * q
    split n r zero = omega arith
    split n r (suc q) = grind arith

advance_by : (t : HashTable) (n : ℕ) (jumps : List (Option ℕ)) (at : Option ℕ) (r : ℕ) → r < 2 → AreJumps t n jumps → cond (eqb r 1) (jump jumps at) at ≡ reach t (n * r) at
unfolding reach
advance_by t n jumps at zero lt are = ap (λ (k : ℕ). reach t k at) (let e : 0 ≡ n * 0 = omega arith in e)
advance_by t n jumps at (suc zero) lt are = are at ∙ ap (λ (k : ℕ). reach t k at) (let e : n ≡ n * 1 = omega arith in e)
advance_by t n jumps at (suc (suc r)) lt are = absurd (omega (arith, lt))

-- where a query leads stays, as steps and jumps double
pub advances : (t : HashTable) (n : ℕ) (jumps : List (Option ℕ)) (q : Query) → AreJumps t n jumps → reach t ((n + n) * (advanced jumps q).left) (advanced jumps q).at ≡ reach t (n * q.left) q.at
advances t n jumps q are =
    let step = advance_by t n jumps q.at (q.left % 2) (omega arith) are in
    ap (reach t ((n + n) * (q.left / 2))) step
    ∙ sym (reach_more t (n * (q.left % 2)) ((n + n) * (q.left / 2)) q.at)
    ∙ ap (λ (k : ℕ). reach t k q.at) (sym (halves n q.left))

-- ---- where the steps of a query lead

next_linked : (t : HashTable) (index : ℕ) → is_linked t index ≡ true → next_in_chain t index ≡ following t index
unfolding next_in_chain
next_linked t index e = rw e refl

none_length : (t : HashTable) (n : ℕ) → EndsAfter t None n → n ≡ 0
none_length t zero ends = refl
none_length t (suc n) ends = absurd (false≢true (zero_not n ∙ sym (ends 0) ∙ rw (chain_from-none t 0) refl))
  where
    zero_not : (n : ℕ) → false ≡ nat_le (suc n) 0
    zero_not n = grind (arith, nat_tests)

same_length : (t : HashTable) (at : Option ℕ) (m n : ℕ) → EndsAfter t at m → EndsAfter t at n → m ≡ n
same_length t at m n a b = omega (arith, below m n (sym (a n) ∙ b n ∙ here n), below n m (sym (b m) ∙ a m ∙ here m))
  where
    here : (k : ℕ) → nat_le k k ≡ true
    here k = le-leb k k (omega arith)

    below : (m n : ℕ) → nat_le m n ≡ true → m ≤ n
    below m n h = leb-true m n h

no_symbol : (t : HashTable) (i : ℕ) → has i (chain_of t None) ≡ false
unfolding chain
no_symbol t i = rw (chain_from-none t t.symbols) refl

gone : (v n : ℕ) → nat_le v (suc n) ≡ true → nat_le v n ≡ false → suc n - v ≡ 0
gone v n is not = grind (arith, nat_tests)

not_first : (t : HashTable) (n x i v : ℕ) (b : Bool) → nat_le v (suc n) ≡ b → nat_le v n ≡ false → eqb x i ≡ false → is_at i (cond b (reach t (suc n - v) (Some x)) None) ≡ false
unfolding reach
not_first t n x i v true is not differ = let none : suc n - v ≡ 0 = gone v n is not in rw none differ
not_first t n x i v false is not differ = refl

-- past a symbol that is another
chain_step : (t : HashTable) (n x i v : ℕ) (b : Bool) → nat_le v n ≡ b → eqb x i ≡ false → is_linked t x ≡ true
    → is_at i (cond (nat_le v n) (reach t (n - v) (following t x)) None) ≡ has i (chain_of t (following t x))
    → is_at i (cond (nat_le v (suc n)) (reach t (suc n - v) (Some x)) None) ≡ has i (chain_of t (following t x))
unfolding reach
chain_step t n x i v true is differ linked later =
    let le : v ≤ n = leb-true v n is in
    let here : nat_le v (suc n) ≡ true = le-leb v (suc n) (omega (arith, le)) in
    let more : suc n - v ≡ suc (n - v) = omega (arith, le) in
    let step : reach t (suc n - v) (Some x) ≡ reach t (n - v) (following t x) = ap (λ (k : ℕ). reach t k (Some x)) more ∙ ap (reach t (n - v)) (next_linked t x linked) in
    let rest : is_at i (reach t (n - v) (following t x)) ≡ has i (chain_of t (following t x)) = rw is at later in
    rw here (ap (is_at i) step ∙ rest)
chain_step t n x i v false is differ linked later =
    let rest : has i (chain_of t (following t x)) ≡ false = sym later ∙ rw is refl in
    not_first t n x i v (nat_le v (suc n)) refl is differ ∙ sym rest

-- the chain of a length as a list, one symbol at a time
chain_at : (t : HashTable) (n : ℕ) (start : Option ℕ) (i v : ℕ) → IsSome (chain t start) → EndsAfter t start n → EndsAfter t (Some i) v
    → is_at i (cond (nat_le v n) (reach t (n - v) start) None) ≡ has i (chain_of t start)
unfolding reach
chain_at t n None i v some ends own =
    let none : has i (chain_of t None) ≡ false = no_symbol t i in
    steps_none t i (nat_le v n) (n - v) ∙ sym none
  where
    steps_none : (t : HashTable) (i : ℕ) (b : Bool) (k : ℕ) → is_at i (cond b (reach t k None) None) ≡ false
    steps_none t i true k = rw (reach_none t k) refl
    steps_none t i false k = refl
chain_at t zero (Some x) i v some ends own = absurd (let lt = ends_length t x 0 ends in omega (arith, lt))
chain_at t (suc n) (Some x) i v some ends own =
    let o = opens t x some in
    let linked = o.linked in
    let later : IsSome (chain t (following t x)) = rw o.more refl in
    let next_ends : EndsAfter t (following t x) n = let less : suc n - 1 ≡ n = omega arith in rw less at (ends_next t x (suc n) ends) in
    let whole : has i (chain_of t (Some x)) ≡ (eqb x i || has i (chain_of t (following t x))) = rw (o.whole, o.more) refl in
    elim (eqb_tells x i) [
      | inl e ↦
          let same : v ≡ suc n = same_length t (Some i) v (suc n) own (rw e.1 at ends) in
          let le : nat_le v (suc n) ≡ true = le-leb v (suc n) (omega (arith, same)) in
          let none : suc n - v ≡ 0 = omega (arith, same) in
          rw (whole, le, none, e.0) refl
      | inr e ↦ rw (whole, e.0) (chain_step t n x i v (nat_le v n) refl e.0 linked (chain_at t n (following t x) i v later next_ends own))
    ]

-- a symbol whose length is not known is on no chain whose length is
unknown_by : (t : HashTable) (lengths : List ℕ) (n : ℕ) (start : Option ℕ) (i : ℕ) → AreLengths t lengths → slice_index lengths i ≡ 0 → IsSome (chain t start) → EndsAfter t start n → IsKnown lengths start
    → has i (chain_of t start) ≡ false
unknown_by t lengths n None i are none some ends known = no_symbol t i
unknown_by t lengths zero (Some x) i are none some ends known = absurd (let lt = ends_length t x 0 ends in omega (arith, lt))
unknown_by t lengths (suc n) (Some x) i are none some ends known =
    let o = opens t x some in
    let later : IsSome (chain t (following t x)) = rw o.more refl in
    let next_ends : EndsAfter t (following t x) n = let less : suc n - 1 ≡ n = omega arith in rw less at (ends_next t x (suc n) ends) in
    let whole : has i (chain_of t (Some x)) ≡ (eqb x i || has i (chain_of t (following t x))) = rw (o.whole, o.more) refl in
    let rest = unknown_by t lengths n (following t x) i are none later next_ends (are.closed x known) in
    elim (eqb_tells x i) [
      | inl e ↦ absurd (let known' : 0 < slice_index lengths i = rw e.1 at known in omega (arith, known', none))
      | inr e ↦ rw (whole, e.0) rest
    ]

-- ---- the query of a symbol

-- there is no step where the chain cannot have it
pub query_none : (t : HashTable) (lengths : List ℕ) (k i : ℕ) → HasLengths t lengths → IsWellFormed t → k < bucket_count t → head t k ≡ None → IsQuery t k i nowhere
unfolding reach
query_none t lengths k i has_lengths formed lt none = rw none (sym (no_symbol t i))

record IsStart (t : HashTable) (lengths : List ℕ) (k start : ℕ) : Type 0 where
  ends : EndsAfter t (Some start) (slice_index lengths start)
  some : IsSome (chain t (Some start))
  known : IsKnown lengths (Some start)

start_is : (t : HashTable) (lengths : List ℕ) (k start : ℕ) → HasLengths t lengths → IsWellFormed t → k < bucket_count t → head t k ≡ Some start → IsStart t lengths k start
start_is t lengths k start has_lengths formed lt at =
    let known : 0 < slice_index lengths start = rw at at (has_lengths.heads k lt) in
    record { ends = has_lengths.are.right start known; some = rw at at (formed.ends k lt); known = known }

pub query_unknown : (t : HashTable) (lengths : List ℕ) (k start i : ℕ) → HasLengths t lengths → IsWellFormed t → k < bucket_count t → head t k ≡ Some start → slice_index lengths i ≡ 0 → IsQuery t k i nowhere
unfolding reach
query_unknown t lengths k start i has_lengths formed lt at none =
    let s = start_is t lengths k start has_lengths formed lt at in
    rw at (sym (unknown_by t lengths (slice_index lengths start) (Some start) i has_lengths.are none s.some s.ends s.known))

pub query_far : (t : HashTable) (lengths : List ℕ) (k start i : ℕ) → HasLengths t lengths → IsWellFormed t → k < bucket_count t → head t k ≡ Some start → 0 < slice_index lengths i
    → slice_index lengths start < slice_index lengths i → IsQuery t k i nowhere
unfolding reach
query_far t lengths k start i has_lengths formed lt at known far =
    let s = start_is t lengths k start has_lengths formed lt at in
    let own = has_lengths.are.right i known in
    let n : ℕ = slice_index lengths start in
    let v : ℕ = slice_index lengths i in
    let off : nat_le v n ≡ false = over v n far in
    let found : is_at i (cond (nat_le v n) (reach t (n - v) (Some start)) None) ≡ has i (chain_of t (Some start)) = chain_at t n (Some start) i v s.some s.ends own in
    rw at (rw off at found)
  where
    over : (v n : ℕ) → n < v → nat_le v n ≡ false
    over v n lt = grind (arith, nat_tests)

pub query_near : (t : HashTable) (lengths : List ℕ) (k start i : ℕ) → HasLengths t lengths → IsWellFormed t → k < bucket_count t → head t k ≡ Some start → 0 < slice_index lengths i
    → slice_index lengths i ≤ slice_index lengths start → IsQuery t k i (record { at = Some start; left = slice_index lengths start - slice_index lengths i })
query_near t lengths k start i has_lengths formed lt at known near =
    let s = start_is t lengths k start has_lengths formed lt at in
    let own = has_lengths.are.right i known in
    let n : ℕ = slice_index lengths start in
    let v : ℕ = slice_index lengths i in
    let on : nat_le v n ≡ true = le-leb v n near in
    let found : is_at i (cond (nat_le v n) (reach t (n - v) (Some start)) None) ≡ has i (chain_of t (Some start)) = chain_at t n (Some start) i v s.some s.ends own in
    rw at (rw on at found)

-- ---- the answer of a query

linked_in : (t : HashTable) (start : Option ℕ) (i : ℕ) → IsSome (chain t start) → has i (chain_of t start) ≡ true → is_linked t i ≡ true
unfolding chain
linked_in t start i ends there =
    let v = chain_value (chain_from t t.symbols start) ends in
    (follows t t.symbols start v.0 i (omega arith) v.1 (rw v.1 at there)).0

own_by : (t : HashTable) (hash i : ℕ) (at : Option ℕ) → IsWellFormed t → IsSome (chain t (head t (hash % bucket_count t))) → is_at i at ≡ has i (chain_of t (head t (hash % bucket_count t)))
    → is_reached t hash i at ≡ is_chain_symbol t hash i
own_by t hash i None formed ends is = ap (λ (b : Bool). b && ((true && matches t hash i) && admits t hash)) is ∙ chain_symbol_is t hash i
own_by t hash i (Some x) formed ends is = elim (eqb_tells x i) [
  | inl e ↦
      let there : has i (chain_of t (head t (hash % bucket_count t))) ≡ true = sym is ∙ e.0 in
      let link : is_linked t i ≡ true = linked_in t (head t (hash % bucket_count t)) i ends there in
      rw (e.0, e.1, link) (ap (λ (b : Bool). b && ((true && matches t hash i) && admits t hash)) (sym there) ∙ chain_symbol_is t hash i)
  | inr e ↦
      let out : has i (chain_of t (head t (hash % bucket_count t))) ≡ false = sym is ∙ e.0 in
      rw e.0 (ap (λ (b : Bool). b && ((true && matches t hash i) && admits t hash)) (sym out) ∙ chain_symbol_is t hash i)
]

-- the answers of the queries are the symbols to which hashes lead
pub own_answers : (t : HashTable) (hashes : List ℕ) (first qs : List Query) (i : ℕ) → IsWellFormed t → AreQueries t hashes (length hashes) first → AreAnswered t first qs → i < length hashes
    → is_reached t (slice_index hashes i) i (place_at qs i) ≡ is_chain_symbol t (slice_index hashes i) i
own_answers t hashes first qs i formed asked answered lt =
    let hash : ℕ = slice_index hashes i in
    let k : ℕ = hash % bucket_count t in
    let at : place_at qs i ≡ reach t (query_at first i).left (query_at first i).at = answered.1 i (omega (arith, lt, asked.0)) in
    own_by t hash i (place_at qs i) formed (formed.ends k (mod_below hash (bucket_count t) formed.buckets.some)) (ap (is_at i) at ∙ asked.1 i lt)

-- ---- all queries at once

-- what holds after so many rounds
pub record AreOn (t : HashTable) (first qs : List Query) (jumps : List (Option ℕ)) (n most : ℕ) : Type 0 where
  pub size : length qs ≡ length first
  pub leads : (i : ℕ) → i < length first → reach t (n * (query_at qs i).left) (query_at qs i).at ≡ reach t (query_at first i).left (query_at first i).at
  pub goes : AreJumps t n jumps
  pub few : (i : ℕ) → i < length first → n * (query_at qs i).left ≤ most

at_advanced : (jumps : List (Option ℕ)) (qs : List Query) (i : ℕ) → i < length qs → query_at (map (advanced jumps) qs) i ≡ advanced jumps (query_at qs i)
at_advanced jumps [] i lt = absurd (omega (arith, lt))
at_advanced jumps (q ∷ qs) zero lt = refl
at_advanced jumps (q ∷ qs) (suc i) lt = at_advanced jumps qs i (omega (arith, lt))

pub begin_rounds : (t : HashTable) (first : List Query) (jumps : List (Option ℕ)) → jumps ≡ map (next_in_chain t) (range_with_len 0 t.symbols) → ((i : ℕ) → i < length first → (query_at first i).left < 2 ^ 32)
    → AreOn t first first jumps 1 (2 ^ 32 - 1)
begin_rounds t first jumps is few = record {
  size = refl;
  leads = λ i lt. ap (λ (k : ℕ). reach t k (query_at first i).at) (let e : 1 * (query_at first i).left ≡ (query_at first i).left = omega arith in e);
  goes = one_step t jumps is;
  few = λ i lt. omega (arith, few i lt);
}

pub one_round : (t : HashTable) (first qs new : List Query) (jumps more : List (Option ℕ)) (n most : ℕ) → AreOn t first qs jumps n most → new ≡ map (advanced jumps) qs → more ≡ map (jump jumps) jumps
    → AreOn t first new more (n + n) most
one_round t first qs new jumps more n most on is doubled = record {
  size = ap length is ∙ length-map qs (advanced jumps) ∙ on.size;
  leads = λ i lt.
      let here : query_at new i ≡ advanced jumps (query_at qs i) = ap (λ (xs : List Query). query_at xs i) is ∙ at_advanced jumps qs i (omega (arith, lt, on.size)) in
      rw here (advances t n jumps (query_at qs i) on.goes ∙ on.leads i lt);
  goes = twice t n jumps more on.goes doubled;
  few = λ i lt.
      let here : query_at new i ≡ advanced jumps (query_at qs i) = ap (λ (xs : List Query). query_at xs i) is ∙ at_advanced jumps qs i (omega (arith, lt, on.size)) in
      rw here (omega (arith, on.few i lt, halves n (query_at qs i).left));
}

-- no step is left
pub rounds_done : (t : HashTable) (first qs : List Query) (jumps : List (Option ℕ)) (n most : ℕ) → AreOn t first qs jumps n most → ((i : ℕ) → i < length first → (query_at qs i).left ≡ 0) → AreAnswered t first qs
unfolding reach
rounds_done t first qs jumps n most on none = (
  on.size,
  λ i lt.
      let no : n * (query_at qs i).left ≡ 0 = rw (none i lt) (omega arith) in
      sym (ap (λ (k : ℕ). reach t k (query_at qs i).at) no) ∙ on.leads i lt,
)

pub done_at : (qs : List Query) → all_done qs ≡ true → (i : ℕ) → (query_at qs i).left ≡ 0
unfolding all_done
done_at [] done i = refl
done_at (q ∷ qs) done zero = eqb-true q.left 0 (and_parts (q.left == 0) (list_all (λ x. x.left == 0) qs) done).0
done_at (q ∷ qs) done (suc i) = done_at qs (and_parts (q.left == 0) (list_all (λ x. x.left == 0) qs) done).1 i

-- ---- one row more

get_last : {X : Type 0} (xs : List X) (x d : X) → get_or (xs ++ x ∷ []) (length xs) d ≡ x
get_last [] x d = refl
get_last (y ∷ ys) x d = get_last ys x d

get_front : {X : Type 0} (xs : List X) (x d : X) (i : ℕ) → i < length xs → get_or (xs ++ x ∷ []) i d ≡ get_or xs i d
get_front [] x d i lt = absurd (omega (arith, lt))
get_front (y ∷ ys) x d zero lt = refl
get_front (y ∷ ys) x d (suc i) lt = get_front ys x d i (omega (arith, lt))

less_or_last : (i n : ℕ) → i < n + 1 → (i < n) ⊎ (i ≡ n)
less_or_last i n lt = elim (eqb_tells i n) [
  | inl e ↦ inr e.1
  | inr e ↦ inl (less i n lt e.1)
]
  where
    less : (i n : ℕ) → i < n + 1 → (i ≡ n → ⊥) → i < n
    less i n lt ne = grind arith

pub asked_more : (t : HashTable) (hashes : List ℕ) (n : ℕ) (qs : List Query) (q : Query) → AreQueries t hashes n qs → IsQuery t (slice_index hashes n % bucket_count t) n q → q.left < 2 ^ 32 → AreQueries t hashes (n + 1) (qs ++ q ∷ [])
asked_more t hashes n qs q are is small = (
  length-append qs (q ∷ []) ∙ omega (arith, are.0),
  λ i lt. elim (less_or_last i n lt) [
    | inl before ↦
        let here : query_at (qs ++ q ∷ []) i ≡ query_at qs i = get_front qs q nowhere i (omega (arith, before, are.0)) in
        rw here (are.1 i before)
    | inr last ↦
        let here : query_at (qs ++ q ∷ []) i ≡ q = rw (last, ← are.0) (get_last qs q nowhere) in
        rw here (rw last is)
  ],
  λ i lt. elim (less_or_last i n lt) [
    | inl before ↦
        let here : query_at (qs ++ q ∷ []) i ≡ query_at qs i = get_front qs q nowhere i (omega (arith, before, are.0)) in
        rw here (are.2 i before)
    | inr last ↦
        let here : query_at (qs ++ q ∷ []) i ≡ q = rw (last, ← are.0) (get_last qs q nowhere) in
        rw here small
  ],
)

-- the answers of the first queries
abbrev pub AreOwn : HashTable → List ℕ → List Query → ℕ → List Bool → Type 0
AreOwn t hashes qs n own = (length own ≡ n) × ((i : ℕ) → i < n → get_or own i false ≡ is_reached t (slice_index hashes i) i (place_at qs i))

pub own_more : (t : HashTable) (hashes : List ℕ) (qs : List Query) (n : ℕ) (own : List Bool) (b : Bool) → AreOwn t hashes qs n own → b ≡ is_reached t (slice_index hashes n) n (place_at qs n) → AreOwn t hashes qs (n + 1) (own ++ b ∷ [])
own_more t hashes qs n own b are is = (
  length-append own (b ∷ []) ∙ omega (arith, are.0),
  λ i lt. elim (less_or_last i n lt) [
    | inl before ↦ get_front own b false i (omega (arith, before, are.0)) ∙ are.1 i before
    | inr last ↦
        let here : get_or (own ++ b ∷ []) i false ≡ b = rw (last, ← are.0) (get_last own b false) in
        here ∙ rw last is
  ],
)

-- what is known of a value, as another fact
pub if_ok_so : {V E : Type 0} (P Q : V → Type 0) → ((v : V) → P v → Q v) → (r : Result V E) → IfOk r P → IfOk r Q
if_ok_so P Q so (Ok v) h = so v h
if_ok_so P Q so (Err e) h = tt

-- an answer about a table, with what a look-up needs
pub formed_answer : {E : Type 0} (t : HashTable) (r : Result Bool E) → IfOk r (λ b. b ≡ well_formed t) → IfOk r (λ b. OnTrue b (IsWellFormed t))
formed_answer t (Ok b) is = OnTrue_from _ _ (λ h. IsWellFormed-from t (sym is ∙ h))
formed_answer t (Err e) is = tt

-- ---- powers of two, round by round

power_more : (round : ℕ) → 2 ^ (round + 1) ≡ 2 ^ round + 2 ^ round
power_more round = let one : round + 1 ≡ suc round = omega arith in rw one (omega arith)

pub next_round : (t : HashTable) (first qs new : List Query) (jumps more : List (Option ℕ)) (round most : ℕ) → AreOn t first qs jumps (2 ^ round) most → new ≡ map (advanced jumps) qs → more ≡ map (jump jumps) jumps
    → AreOn t first new more (2 ^ (round + 1)) most
next_round t first qs new jumps more round most on is doubled = rw (power_more round) (one_round t first qs new jumps more (2 ^ round) most on is doubled)

-- after 32 rounds
pub last_round : (t : HashTable) (first qs : List Query) (jumps : List (Option ℕ)) (round : ℕ) → round ≡ 32 → AreOn t first qs jumps (2 ^ round) (2 ^ 32 - 1) → AreAnswered t first qs
last_round t first qs jumps round is on =
    let at : AreOn t first qs jumps (2 ^ 32) (2 ^ 32 - 1) = rw is at on in
    rounds_done t first qs jumps (2 ^ 32) (2 ^ 32 - 1) at (λ i lt. omega (arith, at.few i lt))
