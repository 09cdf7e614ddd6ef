-- What a well formed table gives to a look-up.
use Rattle.std.proofs.Common.{◌≡◌, ℕ, ◌<◌, ◌≤◌, Bool, true, false, cond, length, slice_index_or, arith, zero-add}
use Rattle.std.specs.Prelude.{IsTrue, IsSome, is_some}
use Rattle.std.specs.List.{range_with_len}
use Rattle.std.specs.Int.{is_power_of_two}
use Rattle.std.proofs.lemmas.Bool.{leb-true, ltb-true, and_parts, false≢true}
use Rattle.std.proofs.lemmas.List.Sums.{AllPass-from_list_all}
use Rattle.std.proofs.lemmas.List.FromFn.{length-range_with_len, get_or-range_with_len}
use Rattle.pl_base.proofs.TestLaws.{power_some}
use Rattle.pl_hash.specs.Table.{HashTable}
use Rattle.pl_hash.specs.declared.table.TheConstants.{SYSV_HEADER_SIZE, GNU_HEADER_SIZE}
use Rattle.pl_hash.specs.Table.{has_header, HasHeader, header_size, bucket_count, bloom_size, chains_at}
use Rattle.pl_hash.specs.Chain.{head, chain, has_buckets, HasBuckets, is_counted, chains_end, well_formed, IsWellFormed}

sizes : (gnu : Bool) (n : ℕ) → cond gnu GNU_HEADER_SIZE SYSV_HEADER_SIZE ≤ n → (SYSV_HEADER_SIZE ≤ n) × (IsTrue gnu → GNU_HEADER_SIZE ≤ n)
sizes true n h = (omega arith, λ _. h)
sizes false n h = (h, λ f. absurd (false≢true f))

pub HasHeader-from : (t : HashTable) → has_header t ≡ true → HasHeader t
unfolding has_header
HasHeader-from t h = let s = sizes t.gnu (length t.words) (leb-true (header_size t) (length t.words) h) in record { counts = s.0; bloom = s.1 }

pub HasBuckets-from : (t : HashTable) → HasHeader t → has_buckets t ≡ true → HasBuckets t
unfolding has_buckets
HasBuckets-from t header h =
    let p = and_parts _ _ h in
    record { header = header; some = ltb-true 0 (bucket_count t) p.0; within = leb-true (chains_at t) (length t.words) p.1 }

bloom_some : (gnu : Bool) (n : ℕ) (b : Bool) → cond gnu (is_power_of_two n) b ≡ true → IsTrue gnu → 0 < n
bloom_some true n b h is_gnu = power_some n h
bloom_some false n b h is_gnu = absurd (false≢true is_gnu)

bloom_from : (t : HashTable) → is_counted t ≡ true → IsTrue t.gnu → 0 < bloom_size t
unfolding is_counted
bloom_from t h = bloom_some t.gnu (bloom_size t) _ h

ends_from : (t : HashTable) → chains_end t ≡ true → (k : ℕ) → k < bucket_count t → IsSome (chain t (head t k))
unfolding chains_end
ends_from t h k lt =
    let n = bucket_count t in
    let at : k < length (range_with_len 0 n) = rw (length-range_with_len 0 n) lt in
    let here : is_some (chain t (head t (slice_index_or (range_with_len 0 n) k 0))) ≡ true = AllPass-from_list_all (λ i. is_some (chain t (head t i))) (range_with_len 0 n) h k 0 at in
    rw (get_or-range_with_len 0 n k 0 lt, zero-add k) at here

pub IsWellFormed-from : (t : HashTable) → IsTrue (well_formed t) → IsWellFormed t
unfolding well_formed
IsWellFormed-from t h =
    let p = and_parts _ _ h in
    let q = and_parts _ _ p.0 in
    let r = and_parts _ _ q.0 in
    let s = and_parts _ _ r.0 in
    record { buckets = HasBuckets-from t (HasHeader-from t s.0) s.1; bloom = bloom_from t r.1; ends = ends_from t p.1 }
