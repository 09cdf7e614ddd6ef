use Rattle.std.proofs.Common.{refl}
use Rattle.pl_form.proofs.ExtensionLaws.{hidden_put, hidden_done}
use Rattle.pl_form.proofs.extension.put_hidden.Goals as goal

pub loop-spot-init : goal.loop-spot-init
loop-spot-init c = record { done = refl; room = c.requires.spots }

pub loop-spot-preserved : goal.loop-spot-preserved
loop-spot-preserved c = hidden_put c.args.spots.now _ (record { at = 0; size = 0; hidden = 0; behind = 0 }) _ _ _ _ _ c.loop-spot-test.true c.loop-spot.invariant c.put_behind-rest.ensures.zeros c.put_behind-rest.ensures.rest

pub returns : goal.returns
returns c = hidden_done c.args.spots.now _ _ _ _ c.loop-spot-test.false c.loop-spot.invariant
