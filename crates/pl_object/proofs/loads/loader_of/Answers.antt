use Rattle.std.proofs.Common.{rules, ◌∙◌, sym, arith}
use Rattle.std.specs.Prelude.{nat_le}
use Rattle.std.proofs.lemmas.List.Sorted.{IsPartitionPoint-from_clause}
use Rattle.pl_object.proofs.LoaderLaws.{begun_first, load_missed, load_hit, load_out}
use Rattle.pl_object.proofs.loads.loader_of.Goals as goal

pub returns-then-after-eq0 : goal.returns-then-after-eq0
returns-then-after-eq0 c =
    let point = IsPartitionPoint-from_clause (λ s. nat_le s.vaddr c.args.address) _ _ c.partition_point-after.ensures.partitioned (begun_first c.args.loads.now c.args.address c.requires) (λ a r q k. search rules) in
    sym (load_missed c.args.loads.now c.args.address c.partition_point-after.result c.requires point c.if-after-eq0.true)

pub returns-then-loads_byte : goal.returns-then-loads_byte
returns-then-loads_byte c =
    let point = IsPartitionPoint-from_clause (λ s. nat_le s.vaddr c.args.address) _ _ c.partition_point-after.ensures.partitioned (begun_first c.args.loads.now c.args.address c.requires) (λ a r q k. search rules) in
    sym (load_hit c.args.loads.now c.args.address c.partition_point-after.result c.requires point _ (omega (arith, c.if-after-eq0.false)) c.partition_point-after.ensures.bound (sym c.loads_byte.ensures ∙ c.if-loads_byte.true))

pub returns-else-loads_byte : goal.returns-else-loads_byte
returns-else-loads_byte c =
    let point = IsPartitionPoint-from_clause (λ s. nat_le s.vaddr c.args.address) _ _ c.partition_point-after.ensures.partitioned (begun_first c.args.loads.now c.args.address c.requires) (λ a r q k. search rules) in
    sym (load_out c.args.loads.now c.args.address c.partition_point-after.result c.requires point _ (omega (arith, c.if-after-eq0.false)) c.partition_point-after.ensures.bound (sym c.loads_byte.ensures ∙ c.if-loads_byte.false))
