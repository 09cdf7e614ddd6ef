use Rattle.pl_slots.proofs.PlannedLaws.{rows_serve, rows_apart}
use Rattle.pl_slots.proofs.planning.plan.Goals as goal

pub returns-clause-serve : goal.returns-clause-serve
returns-clause-serve c = rows_serve c.args.kept.now c.args.wants.now c.args.region c.all_placed.result c.requires c.all_placed.ensures

pub returns-clause-apart : goal.returns-clause-apart
returns-clause-apart c = rows_apart c.args.kept.now c.args.wants.now c.args.region c.all_placed.result c.requires c.all_placed.ensures
