use Rattle.pl_slots.proofs.LowestLaws.{lowest_is, lowest_none}
use Rattle.pl_slots.proofs.holes.lowest_place.Goals as goal

pub returns-clause-lowest : goal.returns-clause-lowest
returns-clause-lowest c are = lowest_is c.args.span c.args.align c.args.holes.now c.first_place.result c.requires c.first_place.ensures.value are

pub returns-clause-none : goal.returns-clause-none
returns-clause-none c = lowest_none c.args.span c.args.align c.args.holes.now c.first_place.result c.requires c.first_place.ensures.value
