use Rattle.std.proofs.Common.{◌∙◌, length, ap, arith, rules}
use Rattle.std.specs.Prelude.{nat_lt}
use Rattle.std.proofs.lemmas.List.Sorted.{IsPartitionPoint-from_clause, IsPartitionedBy-ltb}
use Rattle.pl_base.specs.Windows.{end_of}
use Rattle.pl_object.specs.FilePart.{nothing}
use Rattle.pl_object.proofs.CrossingLaws.{furthest_long, meets_is}
use Rattle.pl_object.proofs.crossing.SortedTables.meet.Goals as goal

pub bounds-furthest-count : goal.bounds-furthest-count
bounds-furthest-count c =
    let t = c.args.self.now in
    let long = ap length c.requires.ends ∙ furthest_long nothing t.tables.now in
    omega (arith, long, c.partition_point-count.ensures.bound)

pub returns : goal.returns
returns c =
    let t = c.args.self.now in
    let w = c.args.window in
    let point = IsPartitionPoint-from_clause (λ u. nat_lt u.at (end_of w)) _ _ c.partition_point-count.ensures.partitioned (IsPartitionedBy-ltb (λ u. u.at) t.tables.now (end_of w) c.requires.rising) (λ a r q k. search rules) in
    c.is_met.ensures ∙ meets_is t w c.partition_point-count.result c.index-furthest-count.result c.requires point c.partition_point-count.ensures.bound c.index-furthest-count.is
