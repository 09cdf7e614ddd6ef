use Rattle.std.proofs.Common.{◌∙◌}
use Rattle.pl_scope.specs.Block.{takes}
use Rattle.pl_scope.proofs.BlockLaws.{first_of, least_done, least_more}
use Rattle.pl_scope.proofs.block.first_picked.Goals as goal

pub loop-entry-preserved : goal.loop-entry-preserved
loop-entry-preserved c =
    least_more (takes c.args.block.now c.args.pick) c.candidates-entry-items.result.now c.loop-entry.entry-index _ c.loop-entry.least _ _ c.loop-entry-test.true (rw c.picks.ensures at c.with_picked-least.ensures) c.loop-entry.invariant

pub returns : goal.returns
returns c =
    let block = c.args.block.now in
    let es = c.candidates-entry-items.result.now in
    least_done (takes block c.args.pick) es c.loop-entry.entry-index c.loop-entry.least _ c.loop-entry-test.false c.loop-entry.invariant ∙ first_of block c.args.pick es c.candidates-entry-items.ensures
