use Rattle.std.proofs.Common.{◌≡◌, List, true, sym, ◌∙◌, subst}
use Rattle.pl_pie.proofs.HoldLaws.{then_holds, unasked}
use Rattle.pl_folder.specs.Calls.{Calls}
use Rattle.pl_folder.specs.Seen.{Done}
use Rattle.pl_journal.specs.Faults.{journal_ending}
use Rattle.pl_journal.specs.Meaning.{rows_for}
use Rattle.pl_journal.specs.Parts.{CarriesOut}
use Rattle.pl_journal.specs.Spelling.{are_rows}
use Rattle.pl_journal.specs.declared.change.Change.{Change}
use Rattle.pl_change.specs.Answers.{of_journal}
use Rattle.pl_change.specs.Commands.{ready_for}
use Rattle.pl_change.specs.Replace.{Fixes, fixed_as, replacement_of}
use Rattle.pl_change.specs.Starts.{Named}
use Rattle.pl_change.proofs.FindLemmas.{at_err}
use Rattle.pl_change.proofs.MakeLemmas.{made, rested_on, stops_early, stops_finding, stops_making}
use Rattle.pl_change.proofs.ReplaceLemmas.{of_made, of_made_err, tells}
use Rattle.pl_change.proofs.StartLemmas.{named_valid}
use Rattle.pl_change.proofs.commands.fix_held.Goals as goal

pub returns-in_err-start_for-clause-named : goal.returns-in_err-start_for-clause-named
returns-in_err-start_for-clause-named g c = at_err (λ r. Named c.args.name.now r) c.from_residual.result c.in_err-start_for.field-0.0 c.from_residual.ensures.1 c.in_err-start_for.ensures.named

pub returns-in_err-made-clause-named : goal.returns-in_err-made-clause-named
returns-in_err-made-clause-named g c = named_valid c.args.name.now c.from_residual-in_err-made.result c.in_ok-start_for.ensures.named

pub returns-in_err-carry_out-clause-named : goal.returns-in_err-carry_out-clause-named
returns-in_err-carry_out-clause-named g c = named_valid c.args.name.now c.from_residual-in_err-carry_out.result c.in_ok-start_for.ensures.named

pub returns-in_err-start_for-clause-fixes : goal.returns-in_err-start_for-clause-fixes
returns-in_err-start_for-clause-fixes g c = unasked (λ choose.
    let seen = g.D.Folder.seen in
    let name = c.args.name.now in
    let fault = c.in_err-start_for.field-0.0 in
    at_err (λ r. Fixes choose name r (seen c.args.held.now.folder) (seen c.start_for.new.held.folder)) c.from_residual.result fault c.from_residual.ensures.1
    (record { calls = stops_early (ready_for name) (λ files. replacement_of (fixed_as choose name) files name) fault c.in_err-start_for.ensures.calls; told = tt }))

pub returns-in_err-made-clause-fixes : goal.returns-in_err-made-clause-fixes
returns-in_err-made-clause-fixes g c = then_holds c.in_err-made.ensures.found (λ choose finds.
    let seen = g.D.Folder.seen in
    let name = c.args.name.now in
    let fault = c.in_err-made.field-0.0 in
    at_err (λ r. Fixes choose name r (seen c.args.held.now.folder) (seen c.fix_changes.new.folder)) c.from_residual-in_err-made.result fault c.from_residual-in_err-made.ensures.1
    (record { calls = stops_finding (ready_for name) (λ files. replacement_of (fixed_as choose name) files name) (g.met.D.Folder.is_folder c.args.held.now.folder) c.in_ok-start_for.ensures.calls fault (of_made_err fault finds.found); told = tt }))

pub carry_out-requires-clause-fine : goal.carry_out-requires-clause-fine
carry_out-requires-clause-fine g c = subst (λ (rows : List Change). are_rows (rows_for rows) ≡ true) (sym c.as_slice.ensures) c.in_ok-made.ensures.fits

pub carry_out-requires-clause-rested : goal.carry_out-requires-clause-rested
carry_out-requires-clause-rested g c = rested_on c.in_ok-start_for.ensures.rested c.in_ok-made.ensures.looks

pub returns-in_err-carry_out-clause-fixes : goal.returns-in_err-carry_out-clause-fixes
returns-in_err-carry_out-clause-fixes g c = then_holds c.in_ok-made.ensures.found (λ choose finds.
    let seen = g.D.Folder.seen in
    let name = c.args.name.now in
    let fault = c.in_err-carry_out.field-0.0 in
    let all = c.in_ok-made.made in
    at_err (λ r. Fixes choose name r (seen c.args.held.now.folder) (seen c.carry_out.new.held.folder)) c.from_residual-in_err-carry_out.result (of_journal fault) c.from_residual-in_err-carry_out.ensures.1
    (record {
      calls = stops_making (ready_for name) (λ files. replacement_of (fixed_as choose name) files name) (g.met.D.Folder.is_folder c.args.held.now.folder) c.in_ok-start_for.ensures.calls all.rows (of_made all finds.found) c.in_ok-start_for.ensures.rested fault c.in_err-carry_out.ensures.plain
          (subst (λ (rows : List Change). Calls (journal_ending fault) (CarriesOut rows) (seen c.fix_changes.new.folder) (seen c.carry_out.new.held.folder)) c.as_slice.ensures c.in_err-carry_out.ensures.calls) c.in_err-carry_out.ensures.real;
      told = tt;
    }))

pub returns-clause-fixes : goal.returns-clause-fixes
returns-clause-fixes g c = then_holds c.in_ok-made.ensures.found (λ choose finds.
    let seen = g.D.Folder.seen in
    let name = c.args.name.now in
    let all = c.in_ok-made.made in
    record {
      calls = made (ready_for name) (λ files. replacement_of (fixed_as choose name) files name) (g.met.D.Folder.is_folder c.args.held.now.folder) c.in_ok-start_for.ensures.calls all.rows (of_made all finds.found) c.in_ok-start_for.ensures.rested
          (subst (λ (rows : List Change). Calls Done (CarriesOut rows) (seen c.fix_changes.new.folder) (seen c.carry_out.new.held.folder)) c.as_slice.ensures c.in_ok-carry_out.ensures.calls) c.in_ok-carry_out.ensures.real
          (λ none. c.in_ok-carry_out.ensures.nothing (c.as_slice.ensures ∙ none));
      told = tells choose name (ready_for name) all.address c.in_ok-start_for.ensures.calls finds.told;
    })
