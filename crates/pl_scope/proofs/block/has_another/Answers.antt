use Rattle.std.proofs.Common.{◌∙◌, sym}
use Rattle.pl_scope.specs.Block.{takes}
use Rattle.pl_scope.proofs.BlockLaws.{another_done, another_here, another_more}
use Rattle.pl_scope.proofs.block.has_another.Goals as goal

pub returns-then-is_other_picked : goal.returns-then-is_other_picked
returns-then-is_other_picked c =
    another_here (takes c.args.block.now c.args.pick) c.args.index c.args.among.now c.loop-entry.entry-index _ _ c.loop-entry-test.true (sym c.is_other_picked.ensures ∙ c.if-is_other_picked.true) c.loop-entry.invariant

pub loop-entry-preserved : goal.loop-entry-preserved
loop-entry-preserved c =
    another_more (takes c.args.block.now c.args.pick) c.args.index c.args.among.now c.loop-entry.entry-index _ _ c.loop-entry-test.true (sym c.is_other_picked.ensures ∙ c.if-is_other_picked.false) c.loop-entry.invariant

pub returns : goal.returns
returns c = another_done (takes c.args.block.now c.args.pick) c.args.index c.args.among.now c.loop-entry.entry-index _ c.loop-entry-test.false c.loop-entry.invariant
