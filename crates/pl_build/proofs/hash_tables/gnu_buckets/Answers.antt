use Rattle.std.proofs.lemmas.List.{get_or_default}
use Rattle.pl_build.specs.Symbols.{bucket_of}
use Rattle.pl_build.proofs.ListLaws.{map_more, map_done}
use Rattle.pl_build.proofs.hash_tables.gnu_buckets.Goals as goal

pub loop-hash-preserved : goal.loop-hash-preserved
loop-hash-preserved c = map_more (bucket_of c.args.count) _ _ _ _ _ _ c.loop-hash-test.true (get_or_default c.args.hashes.now c.loop-hash.hash-index _ _ c.loop-hash-test.true) (rw c.bucket_of.ensures at c.in_ok-push.ensures.items) c.loop-hash.invariant

pub returns : goal.returns
returns c = map_done (bucket_of c.args.count) _ _ _ _ c.loop-hash-test.false c.loop-hash.invariant
