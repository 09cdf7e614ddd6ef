use Rattle.std.proofs.Common.{◌≡◌, ◌++◌, drop, map}
use Rattle.std.specs.List.{range_with_len}
use Rattle.pl_build.specs.declared.fields.Field.TheVariants.{Word}
use Rattle.pl_build.specs.Fields.{fields}
use Rattle.pl_build.specs.WordTables.{words}
use Rattle.pl_build.specs.HashTables.{first_from}
use Rattle.pl_build.proofs.hash_tables.push_sysv_heads.Given as goal

abbrev pub invariant-loop-bucket : goal.invariant-loop-bucket
invariant-loop-bucket l = l.out.items ++ fields (map (λ k. Word ((first_from l.buckets 0) k)) (drop l.bucket (range_with_len 0 l.count))) ≡ l.initial.out.items ++ words (first_from l.buckets 0) l.count
