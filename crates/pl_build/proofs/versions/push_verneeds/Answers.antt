use Rattle.pl_build.specs.Versions.{verneed_at}
use Rattle.pl_build.proofs.LoopLaws.{numbers_more, numbers_done}
use Rattle.pl_build.proofs.versions.push_verneeds.Goals as goal

pub loop-index-init : goal.loop-index-init
loop-index-init c = rw (c.len-count.ensures, c.layout.ensures)

pub loop-index-preserved : goal.loop-index-preserved
loop-index-preserved c = numbers_more (verneed_at c.args.plan.now) _ _ _ _ _ c.loop-index-test.true c.in_ok-push_verneed_at.ensures c.loop-index.invariant

pub returns : goal.returns
returns c = numbers_done (verneed_at c.args.plan.now) _ _ _ _ c.loop-index-test.false c.loop-index.invariant
