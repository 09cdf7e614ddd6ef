use Rattle.std.proofs.Common.{ℕ, List, subst, ◌∙◌}
use Rattle.pl_folder.specs.Calls.{Calls}
use Rattle.pl_journal.specs.Faults.{part_ending}
use Rattle.pl_journal.specs.Parts.{PutsOwn}
use Rattle.pl_journal.specs.declared.fault.JournalFault.TheVariants.{NoMemory}
use Rattle.pl_journal.proofs.Endings.{memory_not_bad, not_bad_with}
use Rattle.pl_journal.proofs.RealLemmas.{firmly_none, stops_firmly}
use Rattle.pl_journal.proofs.staging.put_beside.Goals as goal

pub returns-clause-calls : goal.returns-clause-calls
returns-clause-calls g c =
    subst (λ (name : List ℕ). Calls (part_ending c.put_own.result) (PutsOwn name c.args.bytes.now) (g.D.Folder.seen c.args.held.now.folder) (g.D.Folder.seen c.put_own.new.held.folder))
    (c.as_str.ensures.value ∙ c.in_ok-name.ensures)
    c.put_own.ensures.calls

pub returns-in_err-name-clause-plain : goal.returns-in_err-name-clause-plain
returns-in_err-name-clause-plain g c = not_bad_with c.from_residual.result NoMemory c.from_residual.ensures.1 memory_not_bad

pub returns-in_err-name-clause-real : goal.returns-in_err-name-clause-real
returns-in_err-name-clause-real g c = stops_firmly _ c.from_residual.result c.from_residual.ensures.1 (firmly_none (g.D.Folder.seen c.args.held.now.folder))
