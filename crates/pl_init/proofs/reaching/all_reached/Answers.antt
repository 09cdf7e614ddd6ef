use Rattle.std.proofs.Common.{◌++◌, ◌∙◌, List, ap}
use Rattle.pl_init.specs.declared.relation.ReachRow.{ReachRow}
use Rattle.pl_init.proofs.GraphLaws.{all_more}
use Rattle.pl_init.proofs.reaching.all_reached.Goals as goal

pub loop-from-preserved : goal.loop-from-preserved
loop-from-preserved c = all_more c.args.graph.now c.loop-from.rows c.append.new.rows c.in_ok-found.found c.loop-from.from c.loop-from.invariant c.in_ok-found.ensures (c.in_ok-append.ensures ∙ ap (λ (z : List ReachRow). c.loop-from.rows ++ z) c.as_slice.ensures)
