use Rattle.std.proofs.Common.{arith}
use Rattle.pl_gen.proofs.LineLaws.{needs_more, needs_all}
use Rattle.pl_gen.proofs.recipes.push_needs.Goals as goal

pub loop-turn-preserved : goal.loop-turn-preserved
loop-turn-preserved c = needs_more c.args.libraries.now c.loop-turn.turn _ _ _ c.loop-turn-test.true c.in_ok-push_needed.ensures c.loop-turn.invariant

pub returns : goal.returns
returns c = needs_all c.args.libraries.now _ c.loop-turn.turn _ _ (omega arith) c.loop-turn.invariant
