use Rattle.std.proofs.Common.{rules, arith}
use Rattle.std.specs.Prelude.{nat_le}
use Rattle.std.proofs.lemmas.List.Sorted.{IsPartitionPoint-from_clause}
use Rattle.pl_image.proofs.RangeLemmas.{begun_first, last_inside}
use Rattle.pl_image.proofs.ranges.end_at.Goals as goal

pub returns-clause-inside : goal.returns-clause-inside
returns-clause-inside c = λ a low high.
    let point = IsPartitionPoint-from_clause (λ r. nat_le r.start c.args.address) _ _ c.partition_point-after.ensures.partitioned (begun_first c.args.ranges.now c.args.address c.requires) (λ a r q k. search rules) in
    last_inside c.args.ranges.now c.args.address c.partition_point-after.result c.requires point (record { start = 0; end = 0 }) a (omega (arith, c.if-after-eq0.false)) c.partition_point-after.ensures.bound low (omega (arith, low, high, c.max.ensures))
