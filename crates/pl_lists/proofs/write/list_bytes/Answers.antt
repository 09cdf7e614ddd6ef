use Rattle.std.proofs.Common.{ap, length, List, ℕ}
use Rattle.pl_lists.proofs.WriteLaws.{table_more, table_done, room_more}
use Rattle.pl_lists.proofs.write.list_bytes.Goals as goal

pub loop-row-preserved : goal.loop-row-preserved
loop-row-preserved c =
    let size = ap (λ (name : List ℕ). length name) c.as_str.ensures in
    record {
      bytes = table_more _ _ _ _ c.args.start c.row-item.result _ _ c.loop-row-test.true c.row-item.is size c.in_ok-push_row.ensures c.loop-row.invariant.bytes;
      room = room_more _ _ _ _ _ c.row-item.result c.loop-row-test.true c.row-item.is size c.loop-row.invariant.room;
    }

pub returns : goal.returns
returns c = table_done _ _ c.loop-row.at c.args.start _ c.loop-row-test.false c.loop-row.invariant.bytes
