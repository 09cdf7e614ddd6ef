use Rattle.std.proofs.Common.{◌∙◌, sym, arith}
use Rattle.pl_init.proofs.GraphLaws.{spread_more, spread_none, spread_all}
use Rattle.pl_init.proofs.reaching.reached.Goals as goal

pub add_needed-requires-clause-seen : goal.add_needed-requires-clause-seen
add_needed-requires-clause-seen c = rw c.new-rows.ensures (c.flag.ensures _ c.no_flags-seen.ensures)

pub returns-in_default : goal.returns-in_default
returns-in_default c = spread_none c.args.graph.now c.args.from _ c.loop-next.next c.loop-next.rows c.loop-next-test.true (sym c.row_at.ensures ∙ c.in_default.is) _ c.loop-next.invariant.so_far

pub loop-next-preserved : goal.loop-next-preserved
loop-next-preserved c = record {
  so_far = spread_more c.args.graph.now c.args.from _ c.loop-next.next c.loop-next.rows c.add_needed-in-loop-next.new.rows c.in-Some.row c.loop-next-test.true (sym c.row_at.ensures ∙ c.in-Some.is) c.in_ok-add_needed-2.ensures.rows _ c.loop-next.invariant.so_far;
  seen = c.in_ok-add_needed-2.ensures.seen;
  within = c.in_ok-add_needed-2.ensures.within;
}

pub returns : goal.returns
returns c = spread_all c.args.graph.now c.args.from _ c.loop-next.next c.loop-next.rows _ (omega arith) c.loop-next.invariant.so_far
