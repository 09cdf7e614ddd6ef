-- What is read of a table's header once.
use Rattle.std.specs.Prelude.{◌≡◌, ◌<◌, ◌^◌, IsTrue}
use Rattle.pl_hash.specs.declared.table.Header.{Header}
use Rattle.pl_hash.specs.Table.{HashTable, HasHeader, bucket_count, chain_count, symoffset, bloom_size, bloom_shift, buckets_at, chains_at}

-- where the table holds its header, its numbers and where its parts begin; the first symbol with a link stands where a System V table has the count of links
pub record IsHeader (table : HashTable) (header : Header) : Type 0 where
  pub buckets : HasHeader table → header.buckets ≡ bucket_count table
  pub count : HasHeader table → header.links ≡ chain_count table
  pub first : HasHeader table → header.links ≡ symoffset table
  pub bloom_size : HasHeader table → IsTrue table.gnu → header.bloom_size ≡ bloom_size table
  pub bloom_shift : HasHeader table → IsTrue table.gnu → header.bloom_shift ≡ bloom_shift table
  pub buckets_at : HasHeader table → header.buckets_at ≡ buckets_at table
  pub chains_at : HasHeader table → header.chains_at ≡ chains_at table
  pub buckets_low : header.buckets_at < 2 ^ 36
  pub chains_low : header.chains_at < 2 ^ 37
