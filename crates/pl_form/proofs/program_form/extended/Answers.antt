use Rattle.std.proofs.Common.{◌≡◌, List, ℕ, refl, subst, sym, ap, ◌∙◌, arith}
use Rattle.std.specs.Prelude.{IfOk}
use Rattle.pl_object.proofs.AcceptedLaws.{accepted}
use Rattle.pl_form.specs.Forms.{form_of_program, original_of, undo_part}
use Rattle.pl_form.specs.Originals.{original}
use Rattle.pl_form.specs.Found.{ss_of}
use Rattle.pl_form.specs.Program.{find_last, last_index}
use Rattle.pl_form.specs.Words.{kept_digest}
use Rattle.pl_form.proofs.ReadyLaws.{names_ready, ready, last_ready, extended_ready, program_fit, program_whole, extended_none, extended_some}
use Rattle.pl_form.proofs.program_form.extended.Goals as goal

pub returns-in_default : goal.returns-in_default
returns-in_default c =
    c.new.ensures.items ∙ sym (extended_none c.args.source.now.original.now c.args.source.now.object.now c.args.lists.now c.args.flat.now c.args.version c.requires.source.firm.firm (ap find_last (sym c.as_slice.ensures) ∙ sym c.find_last.ensures ∙ c.in_default.is))

pub program_plan-requires-clause-head : goal.program_plan-requires-clause-head
program_plan-requires-clause-head c = (accepted c.args.source.now.original.now c.args.source.now.object.now c.requires.source.firm.firm.accepted).head

pub program_plan-requires-clause-few : goal.program_plan-requires-clause-few
program_plan-requires-clause-few c = (ready c.args.source.now.original.now c.args.source.now.object.now c.args.source.now.layout.now c.requires.source.firm.firm c.requires.source.found.layout).few

pub program_plan-requires-clause-program : goal.program_plan-requires-clause-program
program_plan-requires-clause-program c =
    extended_ready c.args.source.now.original.now c.args.source.now.object.now c.args.source.now.layout.now c.in-Some.last c.requires.source.firm.firm c.requires.source.firm.program c.requires.source.found.layout
    (last_ready c.args.source.now.original.now c.args.source.now.object.now c.in-Some.last c.requires.source.firm.firm (ap find_last (sym c.as_slice.ensures) ∙ sym c.find_last.ensures ∙ c.in-Some.is))

pub write_planned-requires-clause-fits : goal.write_planned-requires-clause-fits
write_planned-requires-clause-fits c =
    program_fit c.args.source.now.original.now c.args.source.now.object.now c.args.source.now.layout.now c.in-Some.last c.args.lists.now c.in_ok-plan.plan c.args.flat.now
    (undo_part c.in_ok-plan.plan (original c.args.source.now.original.now c.args.source.now.layout.now) c.kept_digest-kept.result) c.kept_digest-kept.result c.requires.source.firm.firm c.requires.source.firm.program c.requires.source.found.layout
    (last_ready c.args.source.now.original.now c.args.source.now.object.now c.in-Some.last c.requires.source.firm.firm (ap find_last (sym c.as_slice.ensures) ∙ sym c.find_last.ensures ∙ c.in-Some.is))
    c.in_ok-plan.ensures refl c.requires.flat
    c.kept_digest-kept.ensures.size (omega (arith, c.requires.lists))

pub write_planned-requires-clause-names : goal.write_planned-requires-clause-names
write_planned-requires-clause-names c = names_ready c.args.source.now.original.now c.args.source.now.object.now c.requires.source.firm.firm.accepted

pub returns : goal.returns
returns c =
    let at = last_ready c.args.source.now.original.now c.args.source.now.object.now c.in-Some.last c.requires.source.firm.firm (ap find_last (sym c.as_slice.ensures) ∙ sym c.find_last.ensures ∙ c.in-Some.is) in
    subst (λ (xs : List ℕ). IfOk c.write_planned.result (λ v. v.items ≡ xs))
    (program_whole c.args.source.now.original.now c.args.source.now.layout.now c.in-Some.last c.args.lists.now c.in_ok-plan.plan c.args.flat.now
    (undo_part c.in_ok-plan.plan (original c.args.source.now.original.now c.args.source.now.layout.now) c.kept_digest-kept.result) c.kept_digest-kept.result c.requires.source.found.layout at c.in_ok-plan.ensures refl
    ∙ ap (form_of_program (original_of c.args.source.now.original.now) (last_index (ss_of c.args.source.now.original.now)) c.in-Some.last.segment c.args.lists.now c.args.flat.now) (c.kept_digest-kept.ensures.value ∙ ap (kept_digest c.args.version) c.requires.source.found.digest)
    ∙ extended_some c.args.source.now.original.now c.in-Some.last c.args.lists.now c.args.flat.now c.args.version at)
    c.write_planned.ensures
