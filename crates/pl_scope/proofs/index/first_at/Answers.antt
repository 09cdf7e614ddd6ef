use Rattle.std.proofs.Common.{rules}
use Rattle.std.specs.Prelude.{nat_lt}
use Rattle.std.proofs.lemmas.List.Sorted.{IsPartitionPoint-from_clause, IsPartitionedBy-ltb}
use Rattle.pl_scope.specs.ShortIndex.{mixed}
use Rattle.pl_scope.proofs.index.first_at.Goals as goal

pub returns-clause-point : goal.returns-clause-point
returns-clause-point c = IsPartitionPoint-from_clause (λ e. nat_lt (mixed e.hash) c.args.hash) _ _ c.partition_point.ensures.partitioned (IsPartitionedBy-ltb (λ e. mixed e.hash) c.args.index.now c.args.hash c.requires) (λ a r q k. search rules)
