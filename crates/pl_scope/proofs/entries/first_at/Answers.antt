use Rattle.std.proofs.Common.{rules}
use Rattle.std.specs.Prelude.{nat_lt}
use Rattle.std.proofs.lemmas.List.Sorted.{IsPartitionPoint-from_clause, IsPartitionedBy-ltb}
use Rattle.pl_scope.proofs.entries.first_at.Goals as goal

pub returns-clause-point : goal.returns-clause-point
returns-clause-point c = IsPartitionPoint-from_clause (λ e. nat_lt e.key c.args.key) _ _ c.partition_point.ensures.partitioned (IsPartitionedBy-ltb (λ e. e.key) c.args.entries.now c.args.key c.requires) (λ a r q k. search rules)
