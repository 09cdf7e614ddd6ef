use Rattle.std.proofs.Common.{sym, subst}
use Rattle.pl_folder.specs.Calls.{Calls}
use Rattle.pl_folder.specs.Seen.{Done, ends}
use Rattle.pl_journal.specs.Parts.{StepsOn}
use Rattle.pl_journal.specs.declared.step.Step.{Step}
use Rattle.pl_journal.proofs.CommitLemmas.{steps_skip}
use Rattle.pl_journal.proofs.RealLemmas.{firmly_none}
use Rattle.pl_journal.proofs.doing.do_step.Goals as goal

pub returns-in-Skip-clause-calls : goal.returns-in-Skip-clause-calls
returns-in-Skip-clause-calls g c =
    let a = g.D.Folder.seen c.args.held.now.folder in
    subst (λ (s : Step). Calls Done (StepsOn s) a a) (sym c.in-Skip.is) (steps_skip a)

pub returns-in-Skip-clause-real : goal.returns-in-Skip-clause-real
returns-in-Skip-clause-real g c = firmly_none (g.D.Folder.seen c.args.held.now.folder)

pub returns-in-Put-clause-calls : goal.returns-in-Put-clause-calls
returns-in-Put-clause-calls g c =
    subst (λ (s : Step). Calls (ends c.put_file.result) (StepsOn s) (g.D.Folder.seen c.args.held.now.folder) (g.D.Folder.seen c.put_file.new.held.folder)) (sym c.in-Put.is) c.put_file.ensures.calls

pub returns-in-Drop-clause-calls : goal.returns-in-Drop-clause-calls
returns-in-Drop-clause-calls g c =
    subst (λ (s : Step). Calls (ends c.drop_file.result) (StepsOn s) (g.D.Folder.seen c.args.held.now.folder) (g.D.Folder.seen c.drop_file.new.held.folder)) (sym c.in-Drop.is) c.drop_file.ensures.calls
