use Rattle.std.proofs.Common.{rules, ◌≡◌}
use Rattle.pl_place.proofs.PlacedLaws.{so_far_more, so_far_stops, so_far_ends}
use Rattle.pl_place.proofs.placing.placed.Goals as goal

pub returns-in-None-clause-fault : goal.returns-in-None-clause-fault
returns-in-None-clause-fault g c =
    let name : c.in_ok-copy_of-in-None.field-0 ≡ c.want-item.result.name = search rules in
    record { because = rw name (so_far_stops _ c.args.free c.args.wants.now c.loop-want.holes c.loop-want.want-index c.want-item.result c.loop-want.starts.items c.loop-want-test.true c.want-item.is c.in-None.ensures.none c.loop-want.invariant) }

pub loop-want-preserved : goal.loop-want-preserved
loop-want-preserved g c = rw (c.in_ok-holes-in-Some.ensures, c.in_ok-push-in-Some.ensures.items)
    (so_far_more _ c.args.free c.args.wants.now c.loop-want.holes c.loop-want.want-index c.want-item.result c.in-Some.range c.loop-want.starts.items c.loop-want-test.true c.want-item.is c.in-Some.ensures.some.0 c.in-Some.ensures.some.1 c.in-Some.ensures.some.2 c.loop-want.invariant)

pub returns-clause-places : goal.returns-clause-places
returns-clause-places g c = so_far_ends _ c.args.free c.args.wants.now c.loop-want.holes c.loop-want.want-index c.loop-want.starts.items c.loop-want-test.false c.loop-want.invariant
