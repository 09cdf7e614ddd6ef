use Rattle.std.proofs.Common.{◌≡◌, ◌++◌, drop, map, length}
use Rattle.std.specs.List.{range_with_len}
use Rattle.pl_build.specs.declared.fields.Field.TheVariants.{Word}
use Rattle.pl_build.specs.Fields.{fields}
use Rattle.pl_build.specs.WordTables.{words}
use Rattle.pl_build.specs.HashTables.{gnu_chain}
use Rattle.pl_build.proofs.hash_tables.push_gnu_chains.Given as goal

abbrev pub invariant-loop-index : goal.invariant-loop-index
invariant-loop-index l = l.out.items ++ fields (map (λ k. Word ((gnu_chain l.hashes l.buckets) k)) (drop l.index (range_with_len 0 (length l.hashes)))) ≡ l.initial.out.items ++ words (gnu_chain l.hashes l.buckets) (length l.hashes)
