use Rattle.pl_init.proofs.FlagLaws.{seen_flagged}
use Rattle.pl_init.proofs.reaching.add.Goals as goal

pub returns-clause-seen : goal.returns-clause-seen
returns-clause-seen c = seen_flagged _ _ _ _ c.args.row c.in_ok-push.ensures.ok (c.flag.ensures _ c.requires.seen)
