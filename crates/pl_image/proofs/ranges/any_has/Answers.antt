use Rattle.std.proofs.Common.{rules, sym, arith}
use Rattle.std.specs.Prelude.{nat_le}
use Rattle.std.proofs.lemmas.List.Sorted.{IsPartitionPoint-from_clause}
use Rattle.pl_image.proofs.RangeLemmas.{begun_first, none_has, last_has}
use Rattle.pl_image.proofs.ranges.any_has.Goals as goal

pub returns-then-after-eq0 : goal.returns-then-after-eq0
returns-then-after-eq0 c =
    let point = IsPartitionPoint-from_clause (λ r. nat_le r.start c.args.address) _ _ c.partition_point-after.ensures.partitioned (begun_first c.args.ranges.now c.args.address c.requires) (λ a r q k. search rules) in
    sym (none_has c.args.ranges.now c.args.address c.partition_point-after.result c.requires point c.if-after-eq0.true)

pub returns : goal.returns
returns c =
    let point = IsPartitionPoint-from_clause (λ r. nat_le r.start c.args.address) _ _ c.partition_point-after.ensures.partitioned (begun_first c.args.ranges.now c.args.address c.requires) (λ a r q k. search rules) in
    sym (last_has c.args.ranges.now c.args.address c.partition_point-after.result c.requires point (record { start = 0; end = 0 }) (omega (arith, c.if-after-eq0.false)) c.partition_point-after.ensures.bound)
