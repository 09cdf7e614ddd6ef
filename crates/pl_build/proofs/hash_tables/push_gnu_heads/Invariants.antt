use Rattle.std.proofs.Common.{◌≡◌, ◌++◌, drop, map}
use Rattle.std.specs.List.{range_with_len}
use Rattle.pl_build.specs.declared.fields.Field.TheVariants.{Word}
use Rattle.pl_build.specs.Fields.{fields}
use Rattle.pl_build.specs.WordTables.{words}
use Rattle.pl_build.specs.HashTables.{gnu_first}
use Rattle.pl_build.proofs.hash_tables.push_gnu_heads.Given as goal

abbrev pub invariant-loop-bucket : goal.invariant-loop-bucket
invariant-loop-bucket l = l.out.items ++ fields (map (λ k. Word ((gnu_first l.first l.buckets) k)) (drop l.bucket (range_with_len 0 l.count))) ≡ l.initial.out.items ++ words (gnu_first l.first l.buckets) l.count
