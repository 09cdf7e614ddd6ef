use Rattle.std.proofs.Common.{sym, ◌∙◌}
use Rattle.pl_hash.specs.Chain.{chain}
use Rattle.pl_hash.proofs.ChainLaws.{walk_ended, walk_left, walk_more, walk_over, flipped}
use Rattle.pl_hash.proofs.chain.chain_ends.Goals as goal

pub returns-in_default : goal.returns-in_default
unfolding chain
returns-in_default c = sym (walk_ended c.args.table.now _ _ (rw c.in_default.is at c.loop.invariant))

pub returns-then-not-is_linked : goal.returns-then-not-is_linked
unfolding chain
returns-then-not-is_linked c =
    sym (walk_left c.args.table.now _ _ c.in-Some.index _ (rw c.symbols-end.ensures at c.loop-test.true) (sym c.if-not-is_linked.ensures.value) (rw c.in-Some.is at c.loop.invariant))

pub loop-preserved : goal.loop-preserved
loop-preserved c =
    rw c.following-at.ensures (walk_more c.args.table.now _ _ c.in-Some.index _ (rw c.symbols-end.ensures at c.loop-test.true) (sym c.if-not-is_linked.ensures.value) (rw c.in-Some.is at c.loop.invariant))

pub returns : goal.returns
unfolding chain
returns c = flipped _ _ c.is_none.ensures ∙ sym (walk_over c.args.table.now _ _ c.loop.at (rw c.symbols-end.ensures at c.loop-test.false)) ∙ c.loop.invariant
