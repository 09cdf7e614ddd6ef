use Rattle.pl_journal.specs.declared.fault.JournalFault.TheVariants.{Failed}
use Rattle.pl_journal.proofs.Endings.{failed_not_bad, not_bad_of, not_bad_with, passed_folder, passed_with, plain_stops}
use Rattle.pl_journal.proofs.StageLemmas.{create_stops, created_there, firmed_on, wrote, wrote_stops, wrote_there}
use Rattle.pl_journal.proofs.RealLemmas.{also_alike, appended_alike, created_alike, firmed_alike, firmly_put, stops_alike}
use Rattle.pl_journal.proofs.staging.put_own.Goals as goal

pub returns-in_err-create-clause-calls : goal.returns-in_err-create-clause-calls
returns-in_err-create-clause-calls g c =
    let fault = c.in_err-create.field-0.0 in
    passed_folder c.from_residual.result fault c.from_residual.ensures.1 c.in_err-create.ensures.plain
    (create_stops c.args.name.now c.args.bytes.now c.requires.own c.requires.other (plain_stops fault c.in_err-create.ensures.plain) c.in_err-create.ensures.calls)

pub append-requires-clause-there : goal.append-requires-clause-there
append-requires-clause-there g c = created_there c.args.name.now c.in_ok-create.ensures.calls

pub returns-in_err-append-clause-calls : goal.returns-in_err-append-clause-calls
returns-in_err-append-clause-calls g c =
    let fault = c.in_err-append.field-0.0 in
    let so_far = wrote c.args.name.now c.args.bytes.now c.requires.own c.requires.other c.in_ok-create.ensures.calls c.in_err-append.ensures.calls in
    passed_folder c.from_residual-in_err-append.result fault c.from_residual-in_err-append.ensures.1 c.in_err-append.ensures.plain
    (wrote_stops c.args.name.now c.args.bytes.now c.requires.own c.requires.other (plain_stops fault c.in_err-append.ensures.plain) so_far)

pub firm-requires-clause-there : goal.firm-requires-clause-there
firm-requires-clause-there g c =
    wrote_there c.args.name.now c.args.bytes.now c.requires.own c.requires.other (wrote c.args.name.now c.args.bytes.now c.requires.own c.requires.other c.in_ok-create.ensures.calls c.in_ok-append.ensures.calls)

pub returns-in_err-firm-clause-calls : goal.returns-in_err-firm-clause-calls
returns-in_err-firm-clause-calls g c =
    let so_far = wrote c.args.name.now c.args.bytes.now c.requires.own c.requires.other c.in_ok-create.ensures.calls c.in_ok-append.ensures.calls in
    passed_with c.from_residual-in_err-firm.result Failed c.from_residual-in_err-firm.ensures.1 (firmed_on c.args.name.now c.args.bytes.now c.requires.own c.requires.other so_far c.in_err-firm.ensures)

pub returns-clause-calls : goal.returns-clause-calls
returns-clause-calls g c =
    let so_far = wrote c.args.name.now c.args.bytes.now c.requires.own c.requires.other c.in_ok-create.ensures.calls c.in_ok-append.ensures.calls in
    firmed_on c.args.name.now c.args.bytes.now c.requires.own c.requires.other so_far c.in_ok-firm.ensures

pub returns-in_err-create-clause-plain : goal.returns-in_err-create-clause-plain
returns-in_err-create-clause-plain g c = not_bad_of c.from_residual.result c.in_err-create.field-0.0 c.from_residual.ensures.1

pub returns-in_err-append-clause-plain : goal.returns-in_err-append-clause-plain
returns-in_err-append-clause-plain g c = not_bad_of c.from_residual-in_err-append.result c.in_err-append.field-0.0 c.from_residual-in_err-append.ensures.1

pub returns-in_err-firm-clause-plain : goal.returns-in_err-firm-clause-plain
returns-in_err-firm-clause-plain g c = not_bad_with c.from_residual-in_err-firm.result Failed c.from_residual-in_err-firm.ensures.1 failed_not_bad

pub returns-in_err-create-clause-real : goal.returns-in_err-create-clause-real
returns-in_err-create-clause-real g c = stops_alike _ c.from_residual.result c.from_residual.ensures.1 (created_alike c.args.name.now c.in_err-create.ensures.calls)

pub returns-in_err-append-clause-real : goal.returns-in_err-append-clause-real
returns-in_err-append-clause-real g c = stops_alike _ c.from_residual-in_err-append.result c.from_residual-in_err-append.ensures.1 (also_alike (created_alike c.args.name.now c.in_ok-create.ensures.calls) (appended_alike c.args.name.now c.args.bytes.now c.in_err-append.ensures.calls))

pub returns-in_err-firm-clause-real : goal.returns-in_err-firm-clause-real
returns-in_err-firm-clause-real g c = stops_alike _ c.from_residual-in_err-firm.result c.from_residual-in_err-firm.ensures.1 (also_alike (also_alike (created_alike c.args.name.now c.in_ok-create.ensures.calls) (appended_alike c.args.name.now c.args.bytes.now c.in_ok-append.ensures.calls)) (firmed_alike c.args.name.now c.in_err-firm.ensures))

pub returns-clause-real : goal.returns-clause-real
returns-clause-real g c = firmly_put c.args.name.now c.args.bytes.now c.in_ok-create.ensures.calls c.in_ok-append.ensures.calls c.in_ok-firm.ensures
