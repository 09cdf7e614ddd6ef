use Rattle.std.proofs.Common.{◌∙◌, List, ap, sym, subst}
use Rattle.pl_weave.proofs.UnderWayLemmas.{row_done}
use Rattle.pl_weave.proofs.running.Running.do_row.Goals as goal

-- c.as_slice.ensures tells that the slice is self.steps: rewrite by it where the goal asks
pub returns-clause-goes : goal.returns-clause-goes
returns-clause-goes c row rows files u = row_done row rows u c.requires.left (rw c.as_slice.ensures at c.do_row.ensures)
