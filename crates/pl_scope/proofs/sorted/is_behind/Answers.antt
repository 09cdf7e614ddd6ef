use Rattle.std.proofs.Common.{◌-◌, arith}
use Rattle.std.proofs.lemmas.Bool.{OnTrue_from, ltb-true}
use Rattle.pl_scope.proofs.SortedLaws.{behind_none, behind_read}
use Rattle.pl_scope.proofs.sorted.is_behind.Goals as goal

pub returns-then-place-eq0 : goal.returns-then-place-eq0
returns-then-place-eq0 c = behind_none c.args.entries.now c.args.key c.args.place c.if-place-eq0.true

pub returns-else-place-count : goal.returns-else-place-count
returns-else-place-count c =
    OnTrue_from _ _ (λ hit. behind_read c.args.entries.now c.args.key c.args.place (c.args.place - 1) c.from.result _ c.requires (omega (arith, c.if-place-count.false)) (omega (arith, c.if-place-eq0.false)) c.from.ensures (ltb-true c.from.result c.args.key hit))
