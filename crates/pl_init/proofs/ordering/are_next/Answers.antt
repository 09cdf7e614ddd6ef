use Rattle.pl_init.proofs.OrderLaws.{next_past, next_stop, next_more, next_all, has_flagged}
use Rattle.pl_init.specs.Graph.{has_number}
use Rattle.pl_init.proofs.ordering.are_next.Goals as goal
use Rattle.pl_init.proofs.ordering.are_next.Goals.{then-member-count-via-then-member-count, then-member-count-via-else-member-count+then-not-is_next}
use Rattle.std.proofs.Common.{take, get_or, arith}
use Rattle.std.proofs.lemmas.List.{take_more}

pub returns-then-member-count : goal.returns-then-member-count
returns-then-member-count c =
    elim c.then-member-count.branch [
      | then-member-count-via-then-member-count w ↦ next_past c.args.table.now.rows.now c.args.count c.loop-member.member-index c.args.order.now _ c.loop-member-test.true (omega arith) c.loop-member.invariant.so_far
      | then-member-count-via-else-member-count+then-not-is_next w ↦
          next_stop c.args.table.now.rows.now c.args.count c.loop-member.member-index c.args.order.now c.loop-member.stands w.is_next.result _ c.requires.few c.loop-member-test.true (omega arith) c.loop-member.invariant.stands w.is_next.ensures w.if-not-is_next.true c.loop-member.invariant.so_far
    ]

pub loop-member-preserved : goal.loop-member-preserved
loop-member-preserved c = record {
  so_far = next_more c.args.table.now.rows.now c.args.count c.loop-member.member-index c.args.order.now c.loop-member.stands c.is_next.result _ c.requires.few c.loop-member-test.true (omega arith) c.loop-member.invariant.stands c.is_next.ensures c.if-not-is_next.false c.loop-member.invariant.so_far;
  stands = has_flagged c.flag.new.flags (take c.loop-member.member-index c.args.order.now) _ (get_or c.args.order.now c.loop-member.member-index 0) (take_more c.args.order.now c.loop-member.member-index 0 c.loop-member-test.true) (c.flag.ensures (has_number (take c.loop-member.member-index c.args.order.now)) c.loop-member.invariant.stands);
}

pub returns : goal.returns
returns c = next_all c.args.table.now.rows.now c.args.count c.loop-member.member-index c.args.order.now _ (omega arith) c.loop-member.invariant.so_far
