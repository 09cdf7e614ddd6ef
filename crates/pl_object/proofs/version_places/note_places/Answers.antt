use Rattle.std.proofs.lemmas.List.{take_all}
use Rattle.pl_object.proofs.PlaceLaws.{none_first, row_more, AreFirst}
use Rattle.pl_object.proofs.version_places.note_places.Goals as goal

pub loop-place-init : goal.loop-place-init
loop-place-init c = none_first c.args.places.now c.requires.len c.requires.none

pub loop-place-preserved : goal.loop-place-preserved
loop-place-preserved c =
    rw (c.note.ensures, c.from.ensures, ← c.index-rows-place.is)
    (row_more c.args.rows.now c.index-rows-place.result c.loop-place.place c.loop-place.places c.loop-place-test.true c.index-rows-place.is c.loop-place.invariant)

pub returns-clause-exact : goal.returns-clause-exact
returns-clause-exact c =
    let are : AreFirst c.args.rows.now c.loop-place.places = rw (take_all c.loop-place.place c.args.rows.now c.loop-place-test.false) at c.loop-place.invariant in
    (are.size, are.first)
