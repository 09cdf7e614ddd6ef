use Rattle.pl_slots.proofs.PlanLaws.{kept_within}
use Rattle.pl_slots.proofs.planning.kept_row.Goals as goal

pub returns-clause-within : goal.returns-clause-within
returns-clause-within c = kept_within c.args.kept.now c.args.region c.args.want.now c.find_row.result c.find_row.ensures
