use Rattle.pl_journal.proofs.InPlace.{staged_there}
use Rattle.pl_journal.proofs.StateLemmas.{ok_commit_can}
use Rattle.pl_journal.proofs.committing.commit_steps.Goals as goal

pub commit-requires : goal.commit-requires
commit-requires g c = staged_there (g.D.Folder.seen c.args.held.now.folder) c.args.steps.now c.requires

pub returns-clause-can : goal.returns-clause-can
returns-clause-can g c = ok_commit_can c.commit.result c.args.steps.now c.requires c.commit.ensures.calls
