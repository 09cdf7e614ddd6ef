use Rattle.std.proofs.Common.{◌≡◌, ◌+◌, ◌*◌, ◌<◌, ◌^◌, ℕ, List, true, false, refl, ap, sym, ◌∙◌, arith, rules, Fits, w32}
use Rattle.pl_hash.specs.Header.{IsHeader}
use Rattle.pl_hash.specs.Table.{bucket_count, buckets_at, chains_at}
use Rattle.pl_hash.proofs.table.gnu_header.Goals as goal

pub returns : goal.returns
unfolding buckets_at chains_at
returns c = λ symbols.
    let few : Fits w32 c.word32-buckets.result = search rules in
    let small : Fits w32 c.word32-bloom_size.result = search rules in
    let at = ap (λ (n : ℕ). 16 + 8 * n) c.word32-bloom_size.ensures in record {
      buckets = λ h. c.word32-buckets.ensures;
      count = λ h. c.word32.ensures;
      first = λ h. c.word32.ensures;
      bloom_size = λ h g. c.word32-bloom_size.ensures;
      bloom_shift = λ h g. c.word32-2.ensures;
      buckets_at = λ h. at;
      chains_at = λ h. ap (λ (n : ℕ). 16 + 8 * c.word32-bloom_size.result + 4 * n) c.word32-buckets.ensures ∙ ap (λ (n : ℕ). n + 4 * bucket_count (record { words = c.args.words.now; gnu = true; symbols = symbols })) at;
      buckets_low = omega (arith, small);
      chains_low = omega (arith, small, few);
    }
