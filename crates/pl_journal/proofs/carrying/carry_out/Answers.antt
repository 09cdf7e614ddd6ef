use Rattle.std.proofs.Common.{◌≡◌, ◌∙◌, List, [], length, sym, subst}
use Rattle.std.proofs.lemmas.Bool.{eqb-true}
use Rattle.std.proofs.lemmas.List.{nil_from_length}
use Rattle.pl_folder.specs.Calls.{Calls}
use Rattle.pl_folder.specs.Seen.{Broken, Done}
use Rattle.pl_journal.specs.Parts.{CanPut, PutsInPlace}
use Rattle.pl_journal.specs.declared.fault.JournalFault.TheVariants.{Failed}
use Rattle.pl_journal.specs.declared.step.Step.{Step}
use Rattle.pl_journal.proofs.Endings.{failed_not_bad, not_bad_with, passed_with}
use Rattle.pl_journal.proofs.InPlace.{carried, carried_broken, carried_rests, carried_stop, nothing_carried}
use Rattle.pl_journal.proofs.RealLemmas.{firmly_none, firmly_then, stops_firmly}
use Rattle.pl_journal.proofs.carrying.carry_out.Goals as goal

pub returns-then-is_empty-clause-calls : goal.returns-then-is_empty-clause-calls
returns-then-is_empty-clause-calls g c =
    let none : c.args.changes.now ≡ [] = nil_from_length c.args.changes.now (eqb-true (length c.args.changes.now) 0 (sym c.is_empty.ensures ∙ c.if-is_empty.true)) in
    nothing_carried c.args.changes.now (g.D.Folder.seen c.args.held.now.folder) none

pub returns-in_err-steps-clause-calls : goal.returns-in_err-steps-clause-calls
returns-in_err-steps-clause-calls g c =
    let fault = c.in_err-steps.field-0.0 in
    passed_with c.from_residual.result fault c.from_residual.ensures.1 (carried_stop c.args.changes.now fault c.in_err-steps.ensures.calls)

pub put_in_place-requires : goal.put_in_place-requires
put_in_place-requires g c = subst (λ (steps : List Step). CanPut (g.D.Folder.seen c.stage_changes.new.held.folder) steps) (sym c.as_slice.ensures) c.in_ok-steps.ensures.can

pub returns-in_err-put_in_place-clause-calls : goal.returns-in_err-put_in_place-clause-calls
returns-in_err-put_in_place-clause-calls g c =
    passed_with c.from_residual-in_err-put_in_place.result Failed c.from_residual-in_err-put_in_place.ensures.1
    (carried_broken c.args.changes.now c.in_ok-steps.steps c.requires.fine c.in_ok-steps.ensures.steps c.in_ok-steps.ensures.calls
    (subst (λ (steps : List Step). Calls Broken (PutsInPlace steps) (g.D.Folder.seen c.stage_changes.new.held.folder) (g.D.Folder.seen c.put_in_place.new.held.folder)) c.as_slice.ensures c.in_err-put_in_place.ensures.calls))

pub returns-clause-calls : goal.returns-clause-calls
returns-clause-calls g c =
    carried c.args.changes.now c.in_ok-steps.steps c.requires.fine c.in_ok-steps.ensures.steps c.in_ok-steps.ensures.calls
    (subst (λ (steps : List Step). Calls Done (PutsInPlace steps) (g.D.Folder.seen c.stage_changes.new.held.folder) (g.D.Folder.seen c.put_in_place.new.held.folder)) c.as_slice.ensures c.in_ok-put_in_place.ensures.calls)

pub returns-clause-ends : goal.returns-clause-ends
returns-clause-ends g c =
    let done = carried c.args.changes.now c.in_ok-steps.steps c.requires.fine c.in_ok-steps.ensures.steps c.in_ok-steps.ensures.calls
    (subst (λ (steps : List Step). Calls Done (PutsInPlace steps) (g.D.Folder.seen c.stage_changes.new.held.folder) (g.D.Folder.seen c.put_in_place.new.held.folder)) c.as_slice.ensures c.in_ok-put_in_place.ensures.calls) in
    carried_rests c.args.changes.now c.in_ok-steps.steps c.requires.fine c.in_ok-steps.ensures.steps c.requires.rested done

pub returns-in_err-steps-clause-plain : goal.returns-in_err-steps-clause-plain
returns-in_err-steps-clause-plain g c = not_bad_with c.from_residual.result c.in_err-steps.field-0.0 c.from_residual.ensures.1 c.in_err-steps.ensures.plain

pub returns-in_err-put_in_place-clause-plain : goal.returns-in_err-put_in_place-clause-plain
returns-in_err-put_in_place-clause-plain g c = not_bad_with c.from_residual-in_err-put_in_place.result Failed c.from_residual-in_err-put_in_place.ensures.1 failed_not_bad

pub returns-then-is_empty-clause-real : goal.returns-then-is_empty-clause-real
returns-then-is_empty-clause-real g c = firmly_none (g.D.Folder.seen c.args.held.now.folder)

pub returns-in_err-steps-clause-real : goal.returns-in_err-steps-clause-real
returns-in_err-steps-clause-real g c = stops_firmly _ c.from_residual.result c.from_residual.ensures.1 c.in_err-steps.ensures.real

pub returns-in_err-put_in_place-clause-real : goal.returns-in_err-put_in_place-clause-real
returns-in_err-put_in_place-clause-real g c = stops_firmly _ c.from_residual-in_err-put_in_place.result c.from_residual-in_err-put_in_place.ensures.1 (firmly_then c.in_ok-steps.ensures.real c.in_err-put_in_place.ensures.real)

pub returns-clause-real : goal.returns-clause-real
returns-clause-real g c = firmly_then c.in_ok-steps.ensures.real c.in_ok-put_in_place.ensures.real
