use Rattle.std.proofs.Common.{◌≡◌, List, true, sym, ◌∙◌, subst}
use Rattle.pl_folder.specs.Calls.{Calls}
use Rattle.pl_folder.specs.Seen.{Done}
use Rattle.pl_journal.specs.Faults.{journal_ending}
use Rattle.pl_journal.specs.Meaning.{rows_for}
use Rattle.pl_journal.specs.Parts.{CarriesOut}
use Rattle.pl_journal.specs.Spelling.{are_rows}
use Rattle.pl_journal.specs.declared.change.Change.{Change}
use Rattle.pl_change.specs.Answers.{ending, of_journal}
use Rattle.pl_batch.specs.Changes.{changes_of, ready_by, run_meant}
use Rattle.pl_change.specs.Commands.{Commands, outcome}
use Rattle.pl_change.proofs.FindLemmas.{at_err}
use Rattle.pl_change.proofs.MakeLemmas.{counted, made, rested_on, stops_early, stops_finding, stops_making}
use Rattle.pl_batch.proofs.commands.run_held.Goals as goal

pub returns-in_err-start_run-clause-calls : goal.returns-in_err-start_run-clause-calls
returns-in_err-start_run-clause-calls g c =
    let seen = g.D.Folder.seen in
    let run = c.args.run.now in
    let fault = c.in_err-start_run.field-0.0 in
    at_err (λ r. Calls (ending r) (Commands (run_meant run) (outcome r)) (seen c.args.held.now.folder) (seen c.start_run.new.held.folder)) c.from_residual.result fault c.from_residual.ensures.1
    (stops_early (ready_by run) (λ files. changes_of files run) fault c.in_err-start_run.ensures.calls)

pub returns-in_err-rows-clause-calls : goal.returns-in_err-rows-clause-calls
returns-in_err-rows-clause-calls g c =
    let seen = g.D.Folder.seen in
    let run = c.args.run.now in
    let fault = c.in_err-rows.field-0.0 in
    at_err (λ r. Calls (ending r) (Commands (run_meant run) (outcome r)) (seen c.args.held.now.folder) (seen c.changes_of.new.folder)) c.from_residual-in_err-rows.result fault c.from_residual-in_err-rows.ensures.1
    (stops_finding (ready_by run) (λ files. changes_of files run) (g.met.D.Folder.is_folder c.args.held.now.folder) c.in_ok-start_run.ensures.calls fault c.in_err-rows.ensures.found)

pub carry_out-requires-clause-fine : goal.carry_out-requires-clause-fine
carry_out-requires-clause-fine g c = subst (λ (rows : List Change). are_rows (rows_for rows) ≡ true) (sym c.as_slice.ensures) c.in_ok-rows.ensures.fits

pub carry_out-requires-clause-rested : goal.carry_out-requires-clause-rested
carry_out-requires-clause-rested g c = rested_on c.in_ok-start_run.ensures.rested c.in_ok-rows.ensures.found.calls

pub returns-in_err-carry_out-clause-calls : goal.returns-in_err-carry_out-clause-calls
returns-in_err-carry_out-clause-calls g c =
    let seen = g.D.Folder.seen in
    let run = c.args.run.now in
    let fault = c.in_err-carry_out.field-0.0 in
    at_err (λ r. Calls (ending r) (Commands (run_meant run) (outcome r)) (seen c.args.held.now.folder) (seen c.carry_out.new.held.folder)) c.from_residual-in_err-carry_out.result (of_journal fault) c.from_residual-in_err-carry_out.ensures.1
    (stops_making (ready_by run) (λ files. changes_of files run) (g.met.D.Folder.is_folder c.args.held.now.folder) c.in_ok-start_run.ensures.calls c.in_ok-rows.rows c.in_ok-rows.ensures.found c.in_ok-start_run.ensures.rested fault c.in_err-carry_out.ensures.plain
    (subst (λ (rows : List Change). Calls (journal_ending fault) (CarriesOut rows) (seen c.changes_of.new.folder) (seen c.carry_out.new.held.folder)) c.as_slice.ensures c.in_err-carry_out.ensures.calls) c.in_err-carry_out.ensures.real)

pub returns-clause-calls : goal.returns-clause-calls
returns-clause-calls g c =
    let seen = g.D.Folder.seen in
    let run = c.args.run.now in
    made (ready_by run) (λ files. changes_of files run) (g.met.D.Folder.is_folder c.args.held.now.folder) c.in_ok-start_run.ensures.calls c.in_ok-rows.rows c.in_ok-rows.ensures.found c.in_ok-start_run.ensures.rested
    (subst (λ (rows : List Change). Calls Done (CarriesOut rows) (seen c.changes_of.new.folder) (seen c.carry_out.new.held.folder)) c.as_slice.ensures c.in_ok-carry_out.ensures.calls) c.in_ok-carry_out.ensures.real
    (λ none. c.in_ok-carry_out.ensures.nothing (c.as_slice.ensures ∙ none))

pub returns-clause-count : goal.returns-clause-count
returns-clause-count g c =
    let run = c.args.run.now in
    counted (ready_by run) (λ files. changes_of files run) (g.met.D.Folder.is_folder c.args.held.now.folder) c.in_ok-start_run.ensures.calls c.in_ok-rows.rows c.in_ok-rows.ensures.found c.in_ok-start_run.ensures.rested _ c.len.ensures
