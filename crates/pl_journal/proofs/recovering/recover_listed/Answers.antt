use Rattle.std.proofs.Common.{sym, ◌∙◌}
use Rattle.pl_journal.specs.Lists.{any_own, texts}
use Rattle.std.specs.FinMap.{get}
use Rattle.std.proofs.lemmas.Bool.{both_ways}
use Rattle.pl_journal.proofs.RecoverLemmas.{has_own_some}
use Rattle.pl_journal.proofs.RecoverParts.{nothing_here}
use Rattle.pl_journal.proofs.RealLemmas.{firmly_none}
use Rattle.pl_journal.proofs.recovering.recover_listed.Goals as goal

pub returns-then-not-has_own-clause-calls : goal.returns-then-not-has_own-clause-calls
returns-then-not-has_own-clause-calls g c =
    nothing_here (texts c.args.names.now) (g.D.Folder.seen c.args.held.now.folder) (g.met.D.Folder.is_folder c.args.held.now.folder) c.requires.names (sym c.has_own.ensures ∙ c.if-not-has_own.true)

pub returns-clause-quiet : goal.returns-clause-quiet
returns-clause-quiet g c = λ rested told.
    absurd (both_ways (any_own (texts c.args.names.now)) (has_own_some (get (g.D.Folder.seen c.args.held.now.folder).files) (texts c.args.names.now) (c.requires.names told) (rested told)) (sym c.has_own.ensures ∙ c.if-not-has_own.false))

pub returns-then-not-has_own-clause-real : goal.returns-then-not-has_own-clause-real
returns-then-not-has_own-clause-real g c = firmly_none (g.D.Folder.seen c.args.held.now.folder)
