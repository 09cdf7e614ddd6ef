use Rattle.pl_weave.specs.Running.{files_in}
use Rattle.pl_weave.proofs.UnderWayLemmas.{begins_rows}
use Rattle.pl_weave.proofs.quiet.begin_rows.Goals as goal

pub returns : goal.returns
returns c small stored =
    begins_rows c.args.rows.now c.in_ok-steps.steps (files_in c.args.held.now) (files_in c.stage.new.held) (files_in c.commit.new.held) c.requires.fine c.requires.no_own c.in_ok-steps.ensures.steps c.in_ok-steps.ensures.reads c.in_ok-steps.ensures.agree c.commit.ensures small stored
