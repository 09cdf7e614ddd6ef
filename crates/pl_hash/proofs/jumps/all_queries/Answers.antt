use Rattle.pl_hash.proofs.JumpLaws.{asked_more}
use Rattle.pl_hash.proofs.jumps.all_queries.Goals as goal

pub loop-index-preserved : goal.loop-index-preserved
loop-index-preserved c =
    rw c.in_ok-push.ensures.items (asked_more c.args.table.now c.args.hashes.now c.loop-index.index c.loop-index.queries.items c.query_of.result c.loop-index.invariant c.query_of.ensures.asked c.query_of.ensures.small)
