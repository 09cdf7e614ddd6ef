use Rattle.std.proofs.Common.{rules, ◌+◌, ◌-◌, length, take, drop, refl, sym, subst}
use Rattle.std.specs.Prelude.{nat_le, nat_lt}
use Rattle.std.specs.List.Sorted.{IsPartitionedBy}
use Rattle.std.proofs.lemmas.List.{take_rest}
use Rattle.std.proofs.lemmas.List.Sorted.{IsPartitionPoint-from_clause}
use Rattle.pl_elf.specs.declared.range.Range.{Range}
use Rattle.pl_image.proofs.RangeLemmas.{ended_first, started_first, near_has, near_only}
use Rattle.pl_image.proofs.ranges.near.Goals as goal

pub returns-clause-same : goal.returns-clause-same
returns-clause-same c = λ a low high.
    let rs = c.args.ranges.now in
    let i = c.partition_point-first.result in
    let limit = c.args.from + c.args.size in
    let rest = take (length rs - i) (drop i rs) in
    let whole = take_rest rs i in
    let first = IsPartitionPoint-from_clause (λ r. nat_le r.end c.args.from) _ _ c.partition_point-first.ensures.partitioned (ended_first rs c.args.from c.requires) (λ x r q k. search rules) in
    let last = IsPartitionPoint-from_clause (λ r. nat_lt r.start limit) _ _ c.partition_point-count.ensures.partitioned (subst (IsPartitionedBy (λ (r : Range). nat_lt r.start limit)) (sym whole) (started_first rs i limit c.requires)) (λ x r q k. search rules) in
    near_has rs rest (take c.partition_point-count.result rest) c.args.from c.args.size i c.partition_point-count.result a whole refl low high first last

pub returns-clause-only : goal.returns-clause-only
returns-clause-only c =
    let rs = c.args.ranges.now in
    let i = c.partition_point-first.result in
    let limit = c.args.from + c.args.size in
    let rest = take (length rs - i) (drop i rs) in
    let whole = take_rest rs i in
    let first = IsPartitionPoint-from_clause (λ r. nat_le r.end c.args.from) _ _ c.partition_point-first.ensures.partitioned (ended_first rs c.args.from c.requires) (λ x r q k. search rules) in
    let last = IsPartitionPoint-from_clause (λ r. nat_lt r.start limit) _ _ c.partition_point-count.ensures.partitioned (subst (IsPartitionedBy (λ (r : Range). nat_lt r.start limit)) (sym whole) (started_first rs i limit c.requires)) (λ x r q k. search rules) in
    near_only rs rest c.args.from limit i c.partition_point-count.result whole first last
