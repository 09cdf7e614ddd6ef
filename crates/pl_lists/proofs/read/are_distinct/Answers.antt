use Rattle.std.proofs.Common.{sym, ◌∙◌}
use Rattle.pl_lists.proofs.DistinctLaws.{none_later, one_later, is_twice}
use Rattle.pl_lists.proofs.read.are_distinct.Goals as goal

pub loop-index-init : goal.loop-index-init
loop-index-init c = none_later c.new-later.result c.args.rows.now c.new-later.ensures.empty

pub returns-then-not-is_new-clause-ok : goal.returns-then-not-is_new-clause-ok
returns-then-not-is_new-clause-ok c =
    is_twice _ _ _ c.index-rows-index.result c.as_str.result c.loop-index-test.true c.loop-index.auto.index c.as_str.ensures (sym c.if-not-is_new.true ∙ c.in-Ok.ensures.added) c.loop-index.invariant

pub loop-index-preserved : goal.loop-index-preserved
loop-index-preserved c = one_later _ _ _ _ c.index-rows-index.result c.as_str.result c.loop-index-test.true c.loop-index.auto.index c.as_str.ensures c.in-Ok.ensures.updates.0 (sym c.if-not-is_new.false ∙ c.in-Ok.ensures.added) c.loop-index.invariant
