use Rattle.std.proofs.Common.{rules}
use Rattle.std.specs.Prelude.{nat_lt}
use Rattle.std.proofs.lemmas.List.Sorted.{IsPartitionPoint-from_clause, IsPartitionedBy-ltb}
use Rattle.pl_image.proofs.touched.before.Goals as goal

pub returns-clause-point : goal.returns-clause-point
returns-clause-point c = IsPartitionPoint-from_clause (λ t. nat_lt t.number c.args.number) _ _ c.partition_point.ensures.partitioned (IsPartitionedBy-ltb (λ t. t.number) c.args.touched.now c.args.number c.requires) (λ a r q k. search rules)
