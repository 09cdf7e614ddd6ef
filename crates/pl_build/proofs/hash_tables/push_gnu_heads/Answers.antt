use Rattle.pl_build.specs.HashTables.{gnu_first}
use Rattle.pl_build.proofs.WordLaws.{words_more, words_done}
use Rattle.pl_build.proofs.hash_tables.push_gnu_heads.Goals as goal

pub loop-bucket-preserved : goal.loop-bucket-preserved
loop-bucket-preserved c = words_more (gnu_first c.args.first c.args.buckets.now) _ _ _ _ _ c.loop-bucket-test.true (rw c.gnu_first.ensures at c.in_ok-push_fields.ensures) c.loop-bucket.invariant

pub returns : goal.returns
returns c = words_done (gnu_first c.args.first c.args.buckets.now) _ _ _ _ c.loop-bucket-test.false c.loop-bucket.invariant
