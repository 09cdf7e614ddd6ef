use Rattle.std.proofs.lemmas.List.{get_or_default}
use Rattle.pl_build.specs.Sections.{row_of}
use Rattle.pl_build.proofs.ListLaws.{map_more, map_done}
use Rattle.pl_build.proofs.sections.section_rows.Goals as goal

pub loop-place-preserved : goal.loop-place-preserved
loop-place-preserved c = map_more (row_of c.args.plan.now c.args.names.now) _ _ _ _ _ _ c.loop-place-test.true (get_or_default c.args.places.now c.loop-place.place-index _ _ c.loop-place-test.true) (rw c.row_of.ensures at c.in_ok-push.ensures.items) c.loop-place.invariant

pub returns : goal.returns
returns c = map_done (row_of c.args.plan.now c.args.names.now) _ _ _ _ c.loop-place-test.false c.loop-place.invariant
