use Rattle.std.proofs.Common.{refl, sym, subst}
use Rattle.pl_folder.specs.Calls.{Calls}
use Rattle.pl_journal.specs.Faults.{part_ending}
use Rattle.pl_journal.specs.Names.{beside}
use Rattle.pl_journal.specs.Parts.{StagesOne}
use Rattle.pl_journal.specs.declared.change.Change.{Change}
use Rattle.pl_journal.proofs.StageLemmas.{stages_put}
use Rattle.pl_journal.proofs.RealLemmas.{firmly_none}
use Rattle.pl_journal.proofs.staging.stage_one.Goals as goal

pub returns-in-Put-clause-calls : goal.returns-in-Put-clause-calls
returns-in-Put-clause-calls g c =
    subst (λ (change : Change). Calls (part_ending c.put_beside.result) (StagesOne c.args.number change) (g.D.Folder.seen c.args.held.now.folder) (g.D.Folder.seen c.put_beside.new.held.folder))
    (sym c.in-Put.is)
    (stages_put c.args.number c.in-Put.name (beside c.args.number) c.as_slice.result.now c.in-Put.bytes refl c.as_slice.ensures c.put_beside.ensures.calls)

pub returns-in-Drop-clause-real : goal.returns-in-Drop-clause-real
returns-in-Drop-clause-real g c = firmly_none (g.D.Folder.seen c.args.held.now.folder)
