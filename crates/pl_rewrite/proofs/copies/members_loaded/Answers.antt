use Rattle.pl_rewrite.proofs.PlaceLaws.{all_loaded, more_loaded, none_loaded}
use Rattle.pl_rewrite.proofs.copies.members_loaded.Goals as goal

pub loop-row-init : goal.loop-row-init
loop-row-init c = none_loaded c.args.numbered.now c.args.walk.now _ c.new-members.ensures.items

pub loaded_at-requires-clause-numbered : goal.loaded_at-requires-clause-numbered
loaded_at-requires-clause-numbered c = c.requires.numbered

pub loaded_at-requires-clause-row : goal.loaded_at-requires-clause-row
loaded_at-requires-clause-row c = c.requires.within c.loop-row.row-index _ c.loop-row-test.true

pub loaded_at-requires-clause-placed : goal.loaded_at-requires-clause-placed
loaded_at-requires-clause-placed c = c.requires.placed c.loop-row.row-index _ c.loop-row-test.true

pub loop-row-preserved : goal.loop-row-preserved
loop-row-preserved c = more_loaded c.args.numbered.now c.args.walk.now c.loop-row.row-index _ c.loop-row.members.items _ c.in_ok-loaded_at.field-0 c.loop-row-test.true c.in_ok-push.ensures.items c.in_ok-loaded_at.ensures.value c.in_ok-loaded_at.ensures.loaded c.loop-row.invariant

pub returns : goal.returns
returns c = all_loaded c.args.numbered.now c.args.walk.now c.loop-row.row-index c.loop-row.members.items c.loop-row-test.false c.loop-row.invariant
