use Rattle.pl_form.proofs.WalkLaws.{standing_more, standing_done}
use Rattle.pl_form.proofs.read.standing.Goals as goal

pub loop-spot-preserved : goal.loop-spot-preserved
loop-spot-preserved c = standing_more c.args.spots.now _ _ c.args.front.now c.args.zeros.now _ _ _ c.loop-spot-test.true c.in_ok-push_standing.ensures c.loop-spot.invariant

pub returns : goal.returns
returns c = standing_done c.args.spots.now _ c.args.front.now c.args.zeros.now _ _ c.loop-spot-test.false c.loop-spot.invariant
