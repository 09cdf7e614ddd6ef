use Rattle.std.proofs.Common.{◌≡◌, List, true, sym, ◌∙◌, subst}
use Rattle.pl_folder.specs.Calls.{Calls}
use Rattle.pl_folder.specs.Seen.{Done}
use Rattle.pl_journal.specs.Faults.{journal_ending}
use Rattle.pl_journal.specs.Meaning.{rows_for}
use Rattle.pl_journal.specs.Parts.{CarriesOut}
use Rattle.pl_journal.specs.Spelling.{are_rows}
use Rattle.pl_journal.specs.declared.change.Change.{Change}
use Rattle.pl_change.specs.Answers.{ending, of_journal}
use Rattle.pl_change.specs.Changes.{removal_meant, removal_of}
use Rattle.pl_change.specs.Commands.{Commands, outcome, ready_for}
use Rattle.pl_change.proofs.FindLemmas.{at_err}
use Rattle.pl_change.proofs.MakeLemmas.{made, rested_on, stops_early, stops_finding, stops_making}
use Rattle.pl_change.proofs.StartLemmas.{named_valid}
use Rattle.pl_change.specs.Starts.{Named}
use Rattle.pl_change.proofs.commands.remove_held.Goals as goal

pub returns-in_err-start_for-clause-named : goal.returns-in_err-start_for-clause-named
returns-in_err-start_for-clause-named g c = at_err (λ r. Named c.args.name.now r) c.from_residual.result c.in_err-start_for.field-0.0 c.from_residual.ensures.1 c.in_err-start_for.ensures.named

pub returns-in_err-rows-clause-named : goal.returns-in_err-rows-clause-named
returns-in_err-rows-clause-named g c = named_valid c.args.name.now c.from_residual-in_err-rows.result c.in_ok-start_for.ensures.named

pub returns-in_err-carry_out-clause-named : goal.returns-in_err-carry_out-clause-named
returns-in_err-carry_out-clause-named g c = named_valid c.args.name.now c.from_residual-in_err-carry_out.result c.in_ok-start_for.ensures.named

pub returns-in_err-start_for-clause-calls : goal.returns-in_err-start_for-clause-calls
returns-in_err-start_for-clause-calls g c =
    let seen = g.D.Folder.seen in
    let name = c.args.name.now in
    let fault = c.in_err-start_for.field-0.0 in
    at_err (λ r. Calls (ending r) (Commands (removal_meant name) (outcome r)) (seen c.args.held.now.folder) (seen c.start_for.new.held.folder)) c.from_residual.result fault c.from_residual.ensures.1
    (stops_early (ready_for name) (λ files. removal_of files name) fault c.in_err-start_for.ensures.calls)

pub returns-in_err-rows-clause-calls : goal.returns-in_err-rows-clause-calls
returns-in_err-rows-clause-calls g c =
    let seen = g.D.Folder.seen in
    let name = c.args.name.now in
    let fault = c.in_err-rows.field-0.0 in
    at_err (λ r. Calls (ending r) (Commands (removal_meant name) (outcome r)) (seen c.args.held.now.folder) (seen c.removal_of.new.folder)) c.from_residual-in_err-rows.result fault c.from_residual-in_err-rows.ensures.1
    (stops_finding (ready_for name) (λ files. removal_of files name) (g.met.D.Folder.is_folder c.args.held.now.folder) c.in_ok-start_for.ensures.calls fault c.in_err-rows.ensures.found)

pub carry_out-requires-clause-fine : goal.carry_out-requires-clause-fine
carry_out-requires-clause-fine g c = subst (λ (rows : List Change). are_rows (rows_for rows) ≡ true) (sym c.as_slice.ensures) c.in_ok-rows.ensures.fits

pub carry_out-requires-clause-rested : goal.carry_out-requires-clause-rested
carry_out-requires-clause-rested g c = rested_on c.in_ok-start_for.ensures.rested c.in_ok-rows.ensures.found.calls

pub returns-in_err-carry_out-clause-calls : goal.returns-in_err-carry_out-clause-calls
returns-in_err-carry_out-clause-calls g c =
    let seen = g.D.Folder.seen in
    let name = c.args.name.now in
    let fault = c.in_err-carry_out.field-0.0 in
    at_err (λ r. Calls (ending r) (Commands (removal_meant name) (outcome r)) (seen c.args.held.now.folder) (seen c.carry_out.new.held.folder)) c.from_residual-in_err-carry_out.result (of_journal fault) c.from_residual-in_err-carry_out.ensures.1
    (stops_making (ready_for name) (λ files. removal_of files name) (g.met.D.Folder.is_folder c.args.held.now.folder) c.in_ok-start_for.ensures.calls c.in_ok-rows.rows c.in_ok-rows.ensures.found c.in_ok-start_for.ensures.rested fault c.in_err-carry_out.ensures.plain
    (subst (λ (rows : List Change). Calls (journal_ending fault) (CarriesOut rows) (seen c.removal_of.new.folder) (seen c.carry_out.new.held.folder)) c.as_slice.ensures c.in_err-carry_out.ensures.calls) c.in_err-carry_out.ensures.real)

pub returns-clause-calls : goal.returns-clause-calls
returns-clause-calls g c =
    let seen = g.D.Folder.seen in
    let name = c.args.name.now in
    made (ready_for name) (λ files. removal_of files name) (g.met.D.Folder.is_folder c.args.held.now.folder) c.in_ok-start_for.ensures.calls c.in_ok-rows.rows c.in_ok-rows.ensures.found c.in_ok-start_for.ensures.rested
    (subst (λ (rows : List Change). Calls Done (CarriesOut rows) (seen c.removal_of.new.folder) (seen c.carry_out.new.held.folder)) c.as_slice.ensures c.in_ok-carry_out.ensures.calls) c.in_ok-carry_out.ensures.real
    (λ none. c.in_ok-carry_out.ensures.nothing (c.as_slice.ensures ∙ none))
