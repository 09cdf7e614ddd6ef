use Rattle.pl_form.proofs.PlaceLaws.{memory_more, memory_done}
use Rattle.pl_form.proofs.places.push_all_memory.Goals as goal

pub loop-spot-preserved : goal.loop-spot-preserved
loop-spot-preserved c = memory_more c.args.spots.now _ _ c.args.bytes.now _ _ _ c.loop-spot-test.true c.in_ok-push_memory.ensures c.loop-spot.invariant

pub returns : goal.returns
returns c = memory_done c.args.spots.now _ c.args.bytes.now _ _ c.loop-spot-test.false c.loop-spot.invariant
