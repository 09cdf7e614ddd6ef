use Rattle.pl_init.proofs.OrderLaws.{ordered_none, ordered_more, ordered_all, has_flagged}
use Rattle.pl_init.specs.Graph.{has_number}
use Rattle.pl_init.proofs.ordering.ordered.Goals as goal
use Rattle.std.proofs.Common.{◌∙◌, sym, arith}

pub returns-in_default : goal.returns-in_default
returns-in_default c = ordered_none c.args.table.now.rows.now c.args.count c.loop-turn._turn c.loop-turn.order.items _ c.loop-turn.stands c.requires.few c.loop-turn-test.true c.loop-turn.invariant.stands (sym c.next_of.ensures.value ∙ c.in_default.is) c.loop-turn.invariant.so_far

pub loop-turn-preserved : goal.loop-turn-preserved
loop-turn-preserved c = record {
  so_far = ordered_more c.args.table.now.rows.now c.args.count c.loop-turn._turn c.in-Some.next c.loop-turn.order.items c.push.new.self.items _ c.loop-turn.stands c.requires.few c.loop-turn-test.true c.loop-turn.invariant.stands (sym c.next_of.ensures.value ∙ c.in-Some.is) c.in_ok-push.ensures.items c.loop-turn.invariant.so_far;
  stands = has_flagged c.flag.new.flags c.loop-turn.order.items c.push.new.self.items c.in-Some.next c.in_ok-push.ensures.items (c.flag.ensures (has_number c.loop-turn.order.items) c.loop-turn.invariant.stands);
}

pub returns : goal.returns
returns c = ordered_all c.args.table.now.rows.now c.args.count c.loop-turn._turn c.loop-turn.order.items _ (omega arith) c.loop-turn.invariant.so_far
