use Rattle.std.proofs.Common.{◌≡◌, ◌++◌, drop, map}
use Rattle.pl_build.specs.Symbols.{bucket_of}
use Rattle.pl_build.specs.HashTables.{gnu_buckets}
use Rattle.pl_build.proofs.hash_tables.gnu_buckets.Given as goal

abbrev pub invariant-loop-hash : goal.invariant-loop-hash
invariant-loop-hash l = l.buckets.items ++ map (bucket_of l.count) (drop l.hash-index l.hashes) ≡ gnu_buckets l.count l.hashes
