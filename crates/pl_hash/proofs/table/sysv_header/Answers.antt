use Rattle.std.proofs.Common.{◌≡◌, ◌+◌, ◌*◌, ◌<◌, ◌^◌, ℕ, List, true, false, refl, ap, sym, ◌∙◌, arith, rules, Fits, w32}
use Rattle.std.proofs.lemmas.Bool.{false≢true}
use Rattle.pl_hash.specs.Header.{IsHeader}
use Rattle.pl_hash.specs.Table.{bucket_count, buckets_at, chains_at}
use Rattle.pl_hash.proofs.table.sysv_header.Goals as goal

pub returns : goal.returns
unfolding buckets_at chains_at
returns c = λ symbols.
    let few : Fits w32 c.word32-buckets.result = search rules in record {
      buckets = λ h. c.word32-buckets.ensures;
      count = λ h. c.word32.ensures;
      first = λ h. c.word32.ensures;
      bloom_size = λ h g. absurd (false≢true g);
      bloom_shift = λ h g. absurd (false≢true g);
      buckets_at = λ h. refl;
      chains_at = λ h. ap (λ (n : ℕ). 8 + 4 * n) c.word32-buckets.ensures;
      buckets_low = omega arith;
      chains_low = omega (arith, few);
    }
