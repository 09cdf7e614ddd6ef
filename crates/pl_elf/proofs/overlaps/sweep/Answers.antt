use Rattle.pl_elf.proofs.SweepLaws.{sweep_stops, sweep_goes}
use Rattle.pl_elf.proofs.overlaps.sweep.Goals as goal

pub returns-then-shares : goal.returns-then-shares
returns-then-shares c = sweep_stops c.loop-extent.last c.args.extents.now c.loop-extent.extent-index c.extent-item.result _ c.loop-extent-test.true c.extent-item.is c.if-shares.ensures c.loop-extent.invariant

pub loop-extent-preserved : goal.loop-extent-preserved
loop-extent-preserved c = sweep_goes c.loop-extent.last c.args.extents.now c.loop-extent.extent-index c.extent-item.result c.later-last.result _ c.loop-extent-test.true c.extent-item.is c.if-shares.ensures c.later-last.ensures c.loop-extent.invariant
