use Rattle.std.proofs.Common.{rules, ◌∙◌, sym, arith}
use Rattle.std.specs.Prelude.{nat_le}
use Rattle.std.proofs.lemmas.List.Sorted.{IsPartitionPoint-from_clause}
use Rattle.pl_image.proofs.PieceLemmas.{begun_first, piece_missed, piece_hit, piece_out}
use Rattle.pl_image.proofs.piece.piece_at.Goals as goal

pub returns-then-after-eq0 : goal.returns-then-after-eq0
returns-then-after-eq0 c =
    let point = IsPartitionPoint-from_clause (λ p. nat_le p.start c.args.address) _ _ c.partition_point-after.ensures.partitioned (begun_first c.args.pieces.now c.args.address c.requires) (λ a r q k. search rules) in
    sym (piece_missed c.args.pieces.now c.args.address c.partition_point-after.result c.requires point c.if-after-eq0.true)

pub returns-then-lies : goal.returns-then-lies
returns-then-lies c =
    let point = IsPartitionPoint-from_clause (λ p. nat_le p.start c.args.address) _ _ c.partition_point-after.ensures.partitioned (begun_first c.args.pieces.now c.args.address c.requires) (λ a r q k. search rules) in
    sym (piece_hit c.args.pieces.now c.args.address c.partition_point-after.result c.requires point c.index-pieces-after.result (omega (arith, c.if-after-eq0.false)) c.partition_point-after.ensures.bound c.index-pieces-after.is (sym c.lies.ensures ∙ c.if-lies.true))

pub returns-else-lies : goal.returns-else-lies
returns-else-lies c =
    let point = IsPartitionPoint-from_clause (λ p. nat_le p.start c.args.address) _ _ c.partition_point-after.ensures.partitioned (begun_first c.args.pieces.now c.args.address c.requires) (λ a r q k. search rules) in
    sym (piece_out c.args.pieces.now c.args.address c.partition_point-after.result c.requires point c.index-pieces-after.result (omega (arith, c.if-after-eq0.false)) c.partition_point-after.ensures.bound c.index-pieces-after.is (sym c.lies.ensures ∙ c.if-lies.false))
