use Rattle.std.proofs.Common.{refl}
use Rattle.pl_weave.specs.Running.{files_in}
use Rattle.pl_weave.proofs.UnderWayLemmas.{rows_end}
use Rattle.pl_weave.proofs.running.Running.end_run.Goals as goal

pub returns-clause-idles : goal.returns-clause-idles
returns-clause-idles c files u = record {
  same = rows_end (files_in c.end_rows.new.held) u c.end_rows.ensures.reads c.end_rows.ensures.no_own;
  no_own = u.no_own;
  stored = u.stored;
  steps = c.new.ensures;
  done = refl;
}
