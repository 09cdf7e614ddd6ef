use Rattle.pl_build.specs.HashTables.{next_after}
use Rattle.pl_build.proofs.WordLaws.{words_more, words_done}
use Rattle.pl_build.proofs.hash_tables.push_sysv_chains.Goals as goal

pub loop-index-preserved : goal.loop-index-preserved
loop-index-preserved c = words_more (next_after c.args.buckets.now) _ _ _ _ _ c.loop-index-test.true (rw c.next_after.ensures at c.in_ok-push_fields.ensures) c.loop-index.invariant

pub returns : goal.returns
returns c = words_done (next_after c.args.buckets.now) _ _ _ _ c.loop-index-test.false c.loop-index.invariant
