use Rattle.pl_journal.proofs.StateLemmas.{ok_end_rest}
use Rattle.pl_journal.proofs.finishing.finish_steps.Goals as goal

pub returns-clause-rested : goal.returns-clause-rested
returns-clause-rested g c =
    ok_end_rest c.finish.result c.args.steps.now c.args.done c.requires.none_left c.requires.can (g.met.D.Folder.is_folder c.finish.new.held.folder) c.finish.ensures.calls c.finish.ensures.settled
