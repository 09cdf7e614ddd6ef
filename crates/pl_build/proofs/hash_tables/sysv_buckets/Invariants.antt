use Rattle.std.proofs.Common.{◌≡◌, ◌++◌, drop, map}
use Rattle.pl_hash.specs.Hash.{sysv}
use Rattle.pl_build.specs.Symbols.{bucket_of}
use Rattle.pl_build.specs.HashTables.{sysv_buckets}
use Rattle.pl_build.proofs.hash_tables.sysv_buckets.Given as goal

abbrev pub invariant-loop-symbol : goal.invariant-loop-symbol
invariant-loop-symbol l = l.buckets.items ++ map (λ s. bucket_of l.count (sysv s.name)) (drop l.symbol-index l.symbols) ≡ sysv_buckets l.plan
