use Rattle.pl_build.specs.HashTables.{gnu_chain}
use Rattle.pl_build.proofs.WordLaws.{words_more, words_done}
use Rattle.pl_build.proofs.hash_tables.push_gnu_chains.Goals as goal

pub loop-index-preserved : goal.loop-index-preserved
loop-index-preserved c = words_more (gnu_chain c.args.hashes.now c.args.buckets.now) _ _ _ _ _ c.loop-index-test.true (rw c.gnu_chain.ensures at c.in_ok-push_fields.ensures) c.loop-index.invariant

pub returns : goal.returns
returns c = words_done (gnu_chain c.args.hashes.now c.args.buckets.now) _ _ _ _ c.loop-index-test.false c.loop-index.invariant
