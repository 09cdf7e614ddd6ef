use Rattle.std.proofs.Common.{◌∙◌, sym}
use Rattle.pl_scope.specs.Block.{takes}
use Rattle.pl_scope.proofs.BlockLaws.{none_done, none_more, none_yet}
use Rattle.pl_scope.proofs.block.any_picked.Goals as goal

pub loop-entry-init : goal.loop-entry-init
loop-entry-init c = none_yet (takes c.args.block.now c.args.pick) c.args.among.now

pub returns-then-picks : goal.returns-then-picks
returns-then-picks c = sym c.picks.ensures ∙ c.if-picks.true

pub loop-entry-preserved : goal.loop-entry-preserved
loop-entry-preserved c =
    none_more (takes c.args.block.now c.args.pick) c.args.among.now c.loop-entry.entry-index _ c.loop-entry-test.true (sym c.picks.ensures ∙ c.if-picks.false) c.loop-entry.invariant

pub returns : goal.returns
returns c = none_done (takes c.args.block.now c.args.pick) c.args.among.now c.loop-entry.entry-index c.loop-entry-test.false c.loop-entry.invariant
