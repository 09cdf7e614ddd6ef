use Rattle.pl_build.specs.HashTables.{first_from}
use Rattle.pl_build.proofs.WordLaws.{words_more, words_done}
use Rattle.pl_build.proofs.hash_tables.push_sysv_heads.Goals as goal

pub loop-bucket-preserved : goal.loop-bucket-preserved
loop-bucket-preserved c = words_more (first_from c.args.buckets.now 0) _ _ _ _ _ c.loop-bucket-test.true (rw c.first_from.ensures at c.in_ok-push_fields.ensures) c.loop-bucket.invariant

pub returns : goal.returns
returns c = words_done (first_from c.args.buckets.now 0) _ _ _ _ c.loop-bucket-test.false c.loop-bucket.invariant
