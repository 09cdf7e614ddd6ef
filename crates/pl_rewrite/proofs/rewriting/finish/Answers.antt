use Rattle.pl_cone.specs.Taken.{files_in}
use Rattle.pl_rewrite.specs.Outcomes.{planned_of}
use Rattle.pl_rewrite.proofs.FinishedLaws.{all_may, files_read, whole_is}
use Rattle.pl_rewrite.proofs.rewriting.finish.Goals as goal

pub all_made-requires-clause-read : goal.all_made-requires-clause-read
all_made-requires-clause-read c = files_read c.args.asked.now.region c.args.files c.requires.taken

pub all_made-requires-clause-may : goal.all_made-requires-clause-may
all_made-requires-clause-may c = all_may (files_in c.args.files) c.args.asked.now.region (planned_of c.args.files c.args.asked.now c.args.plan) c.args.files c.args.outcomes.items c.requires.each

pub returns : goal.returns
returns c = whole_is c.args.asked.now c.args.files c.args.plan c.args.outcomes.items c.in_ok-made.made c.last_of-last.result c.requires c.in_ok-made.ensures c.last_of-last.ensures
