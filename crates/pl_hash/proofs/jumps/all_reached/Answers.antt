use Rattle.pl_hash.proofs.JumpLaws.{own_more}
use Rattle.pl_hash.proofs.jumps.all_reached.Goals as goal

pub loop-index-preserved : goal.loop-index-preserved
loop-index-preserved c =
    rw c.in_ok-push.ensures.items (own_more c.args.table.now c.args.hashes.now c.args.queries.now c.loop-index.index c.loop-index.own.items c.is_reached.result c.loop-index.invariant c.is_reached.ensures)
