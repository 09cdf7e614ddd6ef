use Rattle.std.proofs.Common.{◌-◌, ◌∙◌, arith}
use Rattle.std.proofs.lemmas.Bool.{OnTrue_from, ltb-true}
use Rattle.pl_scope.proofs.IndexLaws.{behind_none, behind_read}
use Rattle.pl_scope.proofs.index.is_behind.Goals as goal

pub returns-then-place-eq0 : goal.returns-then-place-eq0
returns-then-place-eq0 c = behind_none c.args.index.now c.args.hash c.args.place c.if-place-eq0.true

pub returns-else-place-count : goal.returns-else-place-count
returns-else-place-count c =
    OnTrue_from _ _ (λ hit. behind_read c.args.index.now c.args.hash c.args.place (c.args.place - 1) c.from.result _ c.requires (omega (arith, c.if-place-count.false)) (omega (arith, c.if-place-eq0.false)) (c.from.ensures ∙ c.mixed.ensures) (ltb-true c.from.result c.args.hash hit))
