use Rattle.std.proofs.Common.{sym, ◌∙◌}
use Rattle.pl_journal.proofs.RecoverParts.{passes_name, removes_name}
use Rattle.pl_journal.proofs.RealLemmas.{firmly_none, firmly_removed}
use Rattle.pl_journal.proofs.recovering.remove_if_own.Goals as goal

pub returns-then-not-is_journal_name-clause-calls : goal.returns-then-not-is_journal_name-clause-calls
returns-then-not-is_journal_name-clause-calls g c = passes_name c.args.name.now (sym c.is_journal_name.ensures ∙ c.if-not-is_journal_name.true) (g.D.Folder.seen c.args.held.now.folder)

pub returns-clause-calls : goal.returns-clause-calls
returns-clause-calls g c = removes_name c.args.name.now (sym c.is_journal_name.ensures ∙ c.if-not-is_journal_name.false) c.remove.ensures

pub returns-then-not-is_journal_name-clause-real : goal.returns-then-not-is_journal_name-clause-real
returns-then-not-is_journal_name-clause-real g c = firmly_none (g.D.Folder.seen c.args.held.now.folder)

pub returns-clause-real : goal.returns-clause-real
returns-clause-real g c = firmly_removed _ c.remove.ensures
