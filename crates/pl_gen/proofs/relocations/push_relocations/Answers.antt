use Rattle.std.proofs.Common.{arith}
use Rattle.pl_gen.proofs.LineLaws.{relocations_more, relocations_all}
use Rattle.pl_gen.proofs.relocations.push_relocations.Goals as goal

pub loop-turn-preserved : goal.loop-turn-preserved
loop-turn-preserved c = relocations_more c.args.words.now c.loop-turn.turn c.args.place _ _ _ _ _ c.kind_of-kind.result c.loop-turn-test.true c.kind_of-kind.ensures c.in_ok-push_relocation.ensures.text c.in_ok-push_relocation.ensures.known c.loop-turn.invariant

pub returns : goal.returns
returns c = relocations_all c.args.words.now c.loop-turn.turn _ _ _ _ (omega arith) c.loop-turn.invariant
