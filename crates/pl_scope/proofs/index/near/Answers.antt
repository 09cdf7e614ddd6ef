use Rattle.std.proofs.Common.{◌∙◌, arith}
use Rattle.pl_scope.proofs.IndexLaws.{behind_more, first_here}
use Rattle.pl_scope.proofs.index.near.Goals as goal

pub loop-place-init : goal.loop-place-init
loop-place-init c = c.requires.behind

pub loop-place-preserved : goal.loop-place-preserved
loop-place-preserved c =
    behind_more c.args.index.now c.args.hash c.loop-place.place c.from-own.result _ (omega arith) (c.from-own.ensures ∙ c.mixed.ensures) (omega (arith, c.if-own-hash.false)) c.requires.rising c.loop-place.invariant

pub returns-then-own-hash : goal.returns-then-own-hash
returns-then-own-hash c =
    first_here c.args.index.now c.args.hash c.loop-place.place c.from-own.result _ (omega arith) (c.from-own.ensures ∙ c.mixed.ensures) (omega (arith, c.if-own-hash.true)) c.requires.rising c.loop-place.invariant
