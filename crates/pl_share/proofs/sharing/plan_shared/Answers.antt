use Rattle.pl_share.proofs.SoundLaws.{slots_serve, slots_apart}
use Rattle.pl_share.proofs.sharing.plan_shared.Goals as goal

pub returns-clause-serve : goal.returns-clause-serve
returns-clause-serve c =
    let planned = rw c.as_slice.ensures at c.planned.ensures in
    slots_serve c.args.rows.now c.args.wants.now c.args.walks.now.rows c.args.region c.planned.result c.requires planned

pub returns-clause-apart : goal.returns-clause-apart
returns-clause-apart c =
    let planned = rw c.as_slice.ensures at c.planned.ensures in
    slots_apart c.args.rows.now c.args.wants.now c.args.walks.now.rows c.args.region c.planned.result c.requires planned
