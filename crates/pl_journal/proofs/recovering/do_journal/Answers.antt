use Rattle.std.proofs.Common.{List, sym, subst, ◌∙◌}
use Rattle.pl_folder.specs.Calls.{Calls}
use Rattle.pl_folder.specs.Seen.{Broken, Done}
use Rattle.pl_journal.specs.Lists.{texts}
use Rattle.pl_journal.specs.Parts.{CanDo, DoesJournal, DoesRows}
use Rattle.pl_journal.specs.declared.fault.JournalFault.TheVariants.{Failed}
use Rattle.pl_journal.specs.declared.step.Step.{Step}
use Rattle.pl_journal.proofs.Endings.{passed_by}
use Rattle.pl_journal.proofs.RecoverParts.{can_do, journal_done, rows_failed, rows_on, settle_failed, steps_stop, without_journal}
use Rattle.pl_journal.proofs.RealLemmas.{firmly_none, firmly_settled, firmly_then}
use Rattle.pl_journal.proofs.recovering.do_journal.Goals as goal

pub returns-then-not-is_in-clause-calls : goal.returns-then-not-is_in-clause-calls
returns-then-not-is_in-clause-calls g c =
    let a = g.D.Folder.seen c.args.held.now.folder in
    without_journal (texts c.args.names.now) a (g.met.D.Folder.is_folder c.args.held.now.folder) c.requires (sym c.is_in.ensures ∙ c.if-not-is_in.true)

pub returns-in_err-steps-clause-calls : goal.returns-in_err-steps-clause-calls
returns-in_err-steps-clause-calls g c =
    let a = g.D.Folder.seen c.args.held.now.folder in
    let fault = c.in_err-steps.field-0.0 in
    passed_by (DoesJournal (texts c.args.names.now)) c.from_residual.result fault c.from_residual.ensures.1
    (steps_stop (texts c.args.names.now) a (g.met.D.Folder.is_folder c.args.held.now.folder) c.requires fault c.in_err-steps.ensures.bad c.in_err-steps.ensures.calls)

pub do_rows-requires : goal.do_rows-requires
do_rows-requires g c =
    let a = g.D.Folder.seen c.args.held.now.folder in
    subst (λ (steps : List Step). CanDo (g.D.Folder.seen c.read_steps.new.held.folder) steps) (sym c.as_slice.ensures)
    (can_do (texts c.args.names.now) a (g.met.D.Folder.is_folder c.args.held.now.folder) c.requires c.in_ok-steps.steps (λ told. c.in_ok-steps.ensures.ok told (c.requires told)) c.in_ok-steps.ensures.calls)

pub returns-in_err-do_rows-clause-calls : goal.returns-in_err-do_rows-clause-calls
returns-in_err-do_rows-clause-calls g c =
    let a = g.D.Folder.seen c.args.held.now.folder in
    let names = texts c.args.names.now in
    let law = g.met.D.Folder.is_folder c.args.held.now.folder in
    let steps = c.in_ok-steps.steps in
    let done = subst (λ (s : List Step). Calls Broken (DoesRows s) (g.D.Folder.seen c.read_steps.new.held.folder) (g.D.Folder.seen c.do_rows.new.held.folder)) c.as_slice.ensures c.in_err-do_rows.ensures.calls in
    passed_by (DoesJournal names) c.from_residual-in_err-do_rows.result Failed c.from_residual-in_err-do_rows.ensures.1
    (rows_failed names a law c.requires steps (λ told. c.in_ok-steps.ensures.ok told (c.requires told))
    (rows_on names a law c.requires steps (λ told. c.in_ok-steps.ensures.ok told (c.requires told)) c.in_ok-steps.ensures.calls done))

pub returns-in_err-settle-clause-calls : goal.returns-in_err-settle-clause-calls
returns-in_err-settle-clause-calls g c =
    let a = g.D.Folder.seen c.args.held.now.folder in
    let names = texts c.args.names.now in
    let law = g.met.D.Folder.is_folder c.args.held.now.folder in
    let steps = c.in_ok-steps.steps in
    let done = subst (λ (s : List Step). Calls Done (DoesRows s) (g.D.Folder.seen c.read_steps.new.held.folder) (g.D.Folder.seen c.do_rows.new.held.folder)) c.as_slice.ensures c.in_ok-do_rows.ensures.calls in
    passed_by (DoesJournal names) c.from_residual-in_err-settle.result Failed c.from_residual-in_err-settle.ensures.1
    (settle_failed names a law c.requires steps (λ told. c.in_ok-steps.ensures.ok told (c.requires told))
    (rows_on names a law c.requires steps (λ told. c.in_ok-steps.ensures.ok told (c.requires told)) c.in_ok-steps.ensures.calls done)
    c.in_err-settle.ensures)

pub returns-clause-calls : goal.returns-clause-calls
returns-clause-calls g c =
    let a = g.D.Folder.seen c.args.held.now.folder in
    let names = texts c.args.names.now in
    let law = g.met.D.Folder.is_folder c.args.held.now.folder in
    let steps = c.in_ok-steps.steps in
    let done = subst (λ (s : List Step). Calls Done (DoesRows s) (g.D.Folder.seen c.read_steps.new.held.folder) (g.D.Folder.seen c.do_rows.new.held.folder)) c.as_slice.ensures c.in_ok-do_rows.ensures.calls in
    journal_done names a law c.requires steps (λ told. c.in_ok-steps.ensures.ok told (c.requires told))
    (rows_on names a law c.requires steps (λ told. c.in_ok-steps.ensures.ok told (c.requires told)) c.in_ok-steps.ensures.calls done)
    c.in_ok-settle.ensures

pub returns-then-not-is_in-clause-real : goal.returns-then-not-is_in-clause-real
returns-then-not-is_in-clause-real g c = firmly_none (g.D.Folder.seen c.args.held.now.folder)

pub returns-in_err-do_rows-clause-real : goal.returns-in_err-do_rows-clause-real
returns-in_err-do_rows-clause-real g c = firmly_then c.in_ok-steps.ensures.real c.in_err-do_rows.ensures.real

pub returns-in_err-settle-clause-real : goal.returns-in_err-settle-clause-real
returns-in_err-settle-clause-real g c = firmly_then (firmly_then c.in_ok-steps.ensures.real c.in_ok-do_rows.ensures.real) (firmly_settled c.in_err-settle.ensures)

pub returns-clause-real : goal.returns-clause-real
returns-clause-real g c = firmly_then (firmly_then c.in_ok-steps.ensures.real c.in_ok-do_rows.ensures.real) (firmly_settled c.in_ok-settle.ensures)
