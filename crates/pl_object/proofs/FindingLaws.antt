-- Marks for the symbols that a hash table finds tell whether it misses a definer.
use Rattle.std.proofs.Common.{◌≡◌, inl, inr, ℕ, zero, suc, ◌+◌, ◌-◌, ◌*◌, ◌%◌, ◌<◌, Bool, true, false, not, ◌&&◌, nat_lt, List, [], ◌∷◌, length, map, get_or, Option, Some, None, refl, sym, ap, ◌∙◌, arith}
use Rattle.std.specs.Prelude.{slice_get, slice_index}
use Rattle.std.specs.List.{list_any, range_with_len}
use Rattle.std.proofs.Math.Nat.{mod-one}
use Rattle.std.proofs.lemmas.Bool.{cases_Bool, and_parts, leb-true, ltb-true, not-true}
use Rattle.std.proofs.lemmas.List.{length-map}
use Rattle.pl_sym.specs.declared.symbol.Symbol.{Symbol}
use Rattle.pl_hash.specs.declared.table.TheConstants.{SYSV_HEADER_SIZE, WORD_SIZE}
use Rattle.pl_hash.specs.Table.{HashTable, has_header, bucket_count, buckets_at, chains_at, first_linked, link_at, admits, matches}
use Rattle.pl_hash.specs.Chain.{IsWellFormed, has_buckets, is_counted, has_links, chains_end, well_formed}
use Rattle.pl_hash.specs.ChainSymbols.{name_hash, matching, chain_symbols, is_chain_symbol}
use Rattle.pl_object.specs.SymbolClauses.{defines, is_missed, misses_one}
use Rattle.pl_object.specs.Finding.{has_one_bucket, asked_hash, is_unfound}

-- tests that agree in a range
any_in_range : (p q : ℕ → Bool) (from n : ℕ) → ((i : ℕ) → i < from + n → p i ≡ q i) → list_any p (range_with_len from n) ≡ list_any q (range_with_len from n)
any_in_range p q from zero same = refl
any_in_range p q from (suc n) same = rw (same from (omega arith), any_in_range p q (from + 1) n (λ i lt. same i (omega (arith, lt)))) refl

at_map : (f : Symbol → ℕ) (xs : List Symbol) (i : ℕ) (s : Symbol) → slice_get xs i ≡ Some s → slice_index (map f xs) i ≡ f s
at_map f [] i s e = absurd cc
at_map f (x ∷ xs) zero s e = cc
at_map f (x ∷ xs) (suc i) s e = at_map f xs i s e

-- ---- one bucket

bucket_is_one : (table : HashTable) → IsWellFormed table → well_formed table ≡ true → has_one_bucket table ≡ true → (table.gnu ≡ false) × (bucket_count table ≡ 1)
unfolding well_formed has_links link_at chains_at buckets_at first_linked has_one_bucket
bucket_is_one table formed whole one =
    let parts = and_parts (not table.gnu) (nat_lt (length table.words) (SYSV_HEADER_SIZE + WORD_SIZE * (2 + table.symbols))) one in
    let sysv : table.gnu ≡ false = not-true table.gnu parts.0 in
    let front = and_parts (has_header table && has_buckets table && is_counted table && has_links table) (chains_end table) whole in
    let links = (and_parts (has_header table && has_buckets table && is_counted table) (has_links table) front.0).1 in
    let within = leb-true (SYSV_HEADER_SIZE + WORD_SIZE * bucket_count table + WORD_SIZE * (table.symbols - 0)) (length table.words) (rw sysv at links) in
    (sysv, omega (arith, within, ltb-true _ _ parts.1, formed.buckets.some))

one_chain : (table : HashTable) (hash index : ℕ) → table.gnu ≡ false → bucket_count table ≡ 1 → is_chain_symbol table 0 index ≡ is_chain_symbol table hash index
unfolding chain_symbols admits matching matches
one_chain table hash index sysv one =
    let same : 0 % bucket_count table ≡ hash % bucket_count table = rw one (sym (mod-one hash)) in
    rw (sysv, same) refl

-- the hash by which a definer is asked for leads to it where that of its name does
asked_same : (table : HashTable) → IsWellFormed table → well_formed table ≡ true → (s : Symbol) (index : ℕ) → defines s ≡ true → is_chain_symbol table (asked_hash table s) index ≡ is_chain_symbol table (name_hash table s.name) index
unfolding asked_hash
asked_same table formed whole s index given = elim (cases_Bool (has_one_bucket table)) [
  | inl one ↦
      let is = bucket_is_one table formed whole one in
      rw (given, one) (one_chain table (name_hash table s.name) index is.0 is.1)
  | inr more ↦ rw (given, more) refl
]

pub misses_is : (table : HashTable) → IsWellFormed table → well_formed table ≡ true → (symbols : List Symbol) (hashes : List ℕ) (found : List Bool) → hashes ≡ map (asked_hash table) symbols
    → ((i : ℕ) → i < length hashes → get_or found i false ≡ is_chain_symbol table (slice_index hashes i) i)
    → list_any (λ i. is_unfound (get_or found i false) (slice_get symbols i)) (range_with_len 0 (length symbols)) ≡ misses_one symbols table
unfolding misses_one
misses_is table formed whole symbols hashes found are each =
    any_in_range (λ i. is_unfound (get_or found i false) (slice_get symbols i)) (λ i. is_missed table i (slice_get symbols i)) 0 (length symbols)
    (λ i lt. at i (rw (are, length-map symbols (asked_hash table)) (omega (arith, lt))) (slice_get symbols i) refl)
  where
    at : (i : ℕ) → i < length hashes → (o : Option Symbol) → slice_get symbols i ≡ o → is_unfound (get_or found i false) o ≡ is_missed table i o
    at i lt None e = refl
    at i lt (Some s) e =
        let told : slice_index hashes i ≡ asked_hash table s = rw are (at_map (asked_hash table) symbols i s e) in
        elim (cases_Bool (defines s)) [
          | inl given ↦ ap (λ (b : Bool). defines s && not b) (each i lt ∙ ap (λ (h : ℕ). is_chain_symbol table h i) told ∙ asked_same table formed whole s i given)
          | inr none ↦ rw none refl
        ]
