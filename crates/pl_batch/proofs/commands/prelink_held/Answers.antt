use Rattle.std.proofs.Common.{◌≡◌, List, true, refl, sym, ◌∙◌, subst}
use Rattle.std.specs.Fn.{FnOnceReturnsAt}
use Rattle.std.specs.Prelude.{Ok}
use Rattle.pl_folder.specs.Calls.{Calls}
use Rattle.pl_folder.specs.Seen.{Done}
use Rattle.pl_journal.specs.Faults.{journal_ending}
use Rattle.pl_journal.specs.Meaning.{rows_for}
use Rattle.pl_journal.specs.Parts.{CarriesOut}
use Rattle.pl_journal.specs.Spelling.{are_rows}
use Rattle.pl_journal.specs.declared.change.Change.{Change}
use Rattle.pl_change.specs.Answers.{ending, of_journal}
use Rattle.pl_batch.specs.Changes.{changes_of, run_meant}
use Rattle.pl_change.specs.Commands.{Commands, outcome, ready}
use Rattle.pl_change.specs.declared.fault.BatchFault.TheVariants.{NoMemory}
use Rattle.pl_batch.specs.declared.run.Run.TheVariants.{All}
use Rattle.pl_batch.proofs.AllLemmas.{of_rows, of_rows_err, reports}
use Rattle.pl_change.proofs.FindLemmas.{at_err, lacks_finds}
use Rattle.pl_change.proofs.MakeLemmas.{made, rested_on, stops_early, stops_finding, stops_making}
use Rattle.pl_change.proofs.UndoLemmas.{rows}
use Rattle.pl_batch.proofs.commands.prelink_held.Goals as goal

pub returns-in_err-start-clause-calls : goal.returns-in_err-start-clause-calls
returns-in_err-start-clause-calls g c =
    let seen = g.D.Folder.seen in
    let run = All c.args.asked.now in
    let fault = c.in_err-start.field-0.0 in
    at_err (λ r. Calls (ending r) (Commands (run_meant run) (outcome r)) (seen c.args.held.now.folder) (seen c.start.new.held.folder)) c.from_residual.result fault c.from_residual.ensures.1
    (stops_early ready (λ files. changes_of files run) fault c.in_err-start.ensures.calls)

pub returns-in_err-made-clause-calls : goal.returns-in_err-made-clause-calls
returns-in_err-made-clause-calls g c =
    let seen = g.D.Folder.seen in
    let run = All c.args.asked.now in
    let fault = c.in_err-made.field-0.0 in
    at_err (λ r. Calls (ending r) (Commands (run_meant run) (outcome r)) (seen c.args.held.now.folder) (seen c.all_fitting.new.folder)) c.from_residual-in_err-made.result fault c.from_residual-in_err-made.ensures.1
    (stops_finding ready (λ files. changes_of files run) (g.met.D.Folder.is_folder c.args.held.now.folder) c.in_ok-start.ensures.calls fault (of_rows_err fault c.in_err-made.ensures.found))

pub carry_out-requires-clause-fine : goal.carry_out-requires-clause-fine
carry_out-requires-clause-fine g c = subst (λ (rows : List Change). are_rows (rows_for rows) ≡ true) (sym c.as_slice.ensures) c.in_ok-made.ensures.fits

pub carry_out-requires-clause-rested : goal.carry_out-requires-clause-rested
carry_out-requires-clause-rested g c = rested_on c.in_ok-start.ensures.rested c.in_ok-made.ensures.found.calls

pub returns-in_err-carry_out-clause-calls : goal.returns-in_err-carry_out-clause-calls
returns-in_err-carry_out-clause-calls g c =
    let seen = g.D.Folder.seen in
    let run = All c.args.asked.now in
    let fault = c.in_err-carry_out.field-0.0 in
    let all = c.in_ok-made.made in
    at_err (λ r. Calls (ending r) (Commands (run_meant run) (outcome r)) (seen c.args.held.now.folder) (seen c.carry_out.new.held.folder)) c.from_residual-in_err-carry_out.result (of_journal fault) c.from_residual-in_err-carry_out.ensures.1
    (stops_making ready (λ files. changes_of files run) (g.met.D.Folder.is_folder c.args.held.now.folder) c.in_ok-start.ensures.calls all.rows (of_rows all c.in_ok-made.ensures.found) c.in_ok-start.ensures.rested fault c.in_err-carry_out.ensures.plain
    (subst (λ (rows : List Change). Calls (journal_ending fault) (CarriesOut rows) (seen c.all_fitting.new.folder) (seen c.carry_out.new.held.folder)) c.as_slice.ensures c.in_err-carry_out.ensures.calls) c.in_err-carry_out.ensures.real)

pub returns-clause-calls : goal.returns-clause-calls
returns-clause-calls g c =
    let seen = g.D.Folder.seen in
    let run = All c.args.asked.now in
    let all = c.in_ok-made.made in
    made ready (λ files. changes_of files run) (g.met.D.Folder.is_folder c.args.held.now.folder) c.in_ok-start.ensures.calls all.rows (of_rows all c.in_ok-made.ensures.found) c.in_ok-start.ensures.rested
    (subst (λ (rows : List Change). Calls Done (CarriesOut rows) (seen c.all_fitting.new.folder) (seen c.carry_out.new.held.folder)) c.as_slice.ensures c.in_ok-carry_out.ensures.calls) c.in_ok-carry_out.ensures.real
    (λ none. c.in_ok-carry_out.ensures.nothing (c.as_slice.ensures ∙ none))

pub returns-in_err-text-clause-calls : goal.returns-in_err-text-clause-calls
returns-in_err-text-clause-calls g c =
    let seen = g.D.Folder.seen in
    let run = All c.args.asked.now in
    at_err (λ r. Calls (ending r) (Commands (run_meant run) (outcome r)) (seen c.args.held.now.folder) (seen c.all_fitting.new.folder)) c.from_residual-in_err-text.result NoMemory c.from_residual-in_err-text.ensures.1
    (stops_finding ready (λ files. changes_of files run) (g.met.D.Folder.is_folder c.args.held.now.folder) c.in_ok-start.ensures.calls NoMemory (lacks_finds (changes_of (seen c.start.new.held.folder).files run) rows c.in_ok-made.ensures.found.calls))

pub returns-clause-told : goal.returns-clause-told
returns-clause-told g c =
    let made = c.in_ok-made.made in
    reports c.args.asked.now (FnOnceReturnsAt g.F.FnOnce c.args.tell) (Ok c.in_ok-text.text) c.in_ok-start.ensures.calls made.report c.in_ok-made.ensures.report (_, c.in_ok-text.ensures, refl)
