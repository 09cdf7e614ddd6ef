use Rattle.std.proofs.Common.{None, sym, ap}
use Rattle.std.proofs.lemmas.Option.{slice_get-get_or}
use Rattle.pl_cone.specs.Slots.{joined}
use Rattle.std.specs.Prelude.{slice_get}
use Rattle.pl_cone.proofs.ListLaws.{made_more}
use Rattle.pl_cone.proofs.planning.wanted_in.Goals as goal

pub loop-row-preserved : goal.loop-row-preserved
loop-row-preserved c = made_more (λ r. joined (slice_get c.args.positions.now r)) c.args.walk.now c.loop-row.row-index 0 c.loop-row.all _ _ _ c.loop-row-test.true (sym (ap joined (slice_get-get_or c.args.positions.now _ None (c.requires c.loop-row.row-index 0 c.loop-row-test.true)))) c.in_ok-push_some.ensures.ok c.loop-row.invariant
