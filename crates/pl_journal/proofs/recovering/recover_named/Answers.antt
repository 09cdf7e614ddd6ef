use Rattle.pl_journal.specs.Lists.{texts}
use Rattle.pl_journal.specs.Parts.{RecoversSettled}
use Rattle.pl_journal.specs.declared.fault.JournalFault.TheVariants.{Failed}
use Rattle.pl_journal.proofs.Endings.{passed_by}
use Rattle.pl_journal.proofs.RecoverParts.{end_failed, gone_failed, journal_stops, own_gone, recovered_named}
use Rattle.pl_journal.proofs.RealLemmas.{firmly_settled, firmly_then}
use Rattle.pl_journal.proofs.recovering.recover_named.Goals as goal

pub returns-in_err-do_journal-clause-calls : goal.returns-in_err-do_journal-clause-calls
returns-in_err-do_journal-clause-calls g c =
    let a = g.D.Folder.seen c.args.held.now.folder in
    let fault = c.in_err-do_journal.field-0.0 in
    passed_by RecoversSettled c.from_residual.result fault c.from_residual.ensures.1
    (journal_stops (texts c.args.names.now) a (g.met.D.Folder.is_folder c.args.held.now.folder) c.requires.names fault c.in_err-do_journal.ensures.calls)

pub returns-in_err-remove_own-clause-calls : goal.returns-in_err-remove_own-clause-calls
returns-in_err-remove_own-clause-calls g c =
    let a = g.D.Folder.seen c.args.held.now.folder in
    let names = texts c.args.names.now in
    let law = g.met.D.Folder.is_folder c.args.held.now.folder in
    passed_by RecoversSettled c.from_residual-in_err-remove_own.result Failed c.from_residual-in_err-remove_own.ensures.1
    (gone_failed names a law c.requires.names (own_gone names a law c.requires.names c.in_ok-do_journal.ensures.calls c.in_err-remove_own.ensures.calls))

pub returns-in_err-settle-clause-calls : goal.returns-in_err-settle-clause-calls
returns-in_err-settle-clause-calls g c =
    let a = g.D.Folder.seen c.args.held.now.folder in
    let names = texts c.args.names.now in
    let law = g.met.D.Folder.is_folder c.args.held.now.folder in
    passed_by RecoversSettled c.from_residual-in_err-settle.result Failed c.from_residual-in_err-settle.ensures.1
    (end_failed names a law c.requires.names (own_gone names a law c.requires.names c.in_ok-do_journal.ensures.calls c.in_ok-remove_own.ensures.calls) c.in_err-settle.ensures)

pub returns-clause-calls : goal.returns-clause-calls
returns-clause-calls g c =
    let a = g.D.Folder.seen c.args.held.now.folder in
    let names = texts c.args.names.now in
    let law = g.met.D.Folder.is_folder c.args.held.now.folder in
    recovered_named names a law c.requires.names (own_gone names a law c.requires.names c.in_ok-do_journal.ensures.calls c.in_ok-remove_own.ensures.calls) c.in_ok-settle.ensures

pub returns-in_err-remove_own-clause-real : goal.returns-in_err-remove_own-clause-real
returns-in_err-remove_own-clause-real g c = firmly_then c.in_ok-do_journal.ensures.real c.in_err-remove_own.ensures.real

pub returns-in_err-settle-clause-real : goal.returns-in_err-settle-clause-real
returns-in_err-settle-clause-real g c = firmly_then (firmly_then c.in_ok-do_journal.ensures.real c.in_ok-remove_own.ensures.real) (firmly_settled c.in_err-settle.ensures)

pub returns-clause-real : goal.returns-clause-real
returns-clause-real g c = firmly_then (firmly_then c.in_ok-do_journal.ensures.real c.in_ok-remove_own.ensures.real) (firmly_settled c.in_ok-settle.ensures)
