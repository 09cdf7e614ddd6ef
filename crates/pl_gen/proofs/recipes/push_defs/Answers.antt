use Rattle.std.proofs.Common.{arith}
use Rattle.pl_gen.proofs.LineLaws.{defs_more, defs_all}
use Rattle.pl_gen.proofs.recipes.push_defs.Goals as goal

pub loop-turn-preserved : goal.loop-turn-preserved
loop-turn-preserved c = defs_more c.args.functions.now c.loop-turn.turn _ _ _ c.loop-turn-test.true c.in_ok-push_def.ensures c.loop-turn.invariant

pub returns : goal.returns
returns c = defs_all c.args.functions.now _ c.loop-turn.turn _ _ _ (omega arith) c.loop-turn.invariant
