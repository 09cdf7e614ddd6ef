use Rattle.pl_init.proofs.GraphLaws.{found_more, found_within}
use Rattle.pl_init.proofs.reaching.add_needed.Goals as goal

pub loop-to-preserved : goal.loop-to-preserved
loop-to-preserved c = record {
  so_far = found_more c.args.from c.args.via c.loop-to.rows c.add.new.rows c.needs_of-to-items.result.now c.loop-to.to-index c.loop-to-test.true c.in_ok-add.ensures.rows _ c.loop-to.invariant.so_far;
  seen = c.in_ok-add.ensures.seen;
  within = rw c.in_ok-add.ensures.rows (found_within _ _ _ _ _ c.loop-to.invariant.within (c.needs_of-to-items.ensures.small c.loop-to.to-index 0 c.loop-to-test.true));
}
