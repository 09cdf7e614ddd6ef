use Rattle.std.proofs.Common.{◌≡◌, List, ℕ, refl, subst, ap, ◌∙◌, arith}
use Rattle.std.specs.Prelude.{IfOk}
use Rattle.pl_form.specs.Forms.{form_of_library, original_of, undo_part}
use Rattle.pl_form.specs.Originals.{original}
use Rattle.pl_form.specs.Words.{kept_digest}
use Rattle.pl_form.proofs.ReadyLaws.{names_ready, movable_ready, library_fit, library_whole}
use Rattle.pl_object.proofs.AcceptedLaws.{accepted}
use Rattle.pl_form.proofs.library_form.moved.Goals as goal

pub library_plan-requires-clause-head : goal.library_plan-requires-clause-head
library_plan-requires-clause-head c = (accepted c.args.source.now.original.now c.args.source.now.object.now c.requires.source.firm.firm.accepted).head

pub library_plan-requires-clause-library : goal.library_plan-requires-clause-library
library_plan-requires-clause-library c = movable_ready c.args.source.now.original.now c.args.source.now.object.now c.args.source.now.layout.now c.requires.source.firm.firm c.requires.source.firm.library c.requires.source.found.layout

pub library_plan-requires-clause-strings : goal.library_plan-requires-clause-strings
library_plan-requires-clause-strings c = omega (arith, c.requires.list.strings)

pub write_planned-requires-clause-fits : goal.write_planned-requires-clause-fits
write_planned-requires-clause-fits c =
    library_fit c.args.source.now.original.now c.args.source.now.object.now c.args.source.now.layout.now c.args.mark.now.slot c.args.mark.now.stamp c.args.mark.now.checksum c.args.listed c.in_ok-plan.plan c.args.flat.now
    (undo_part c.in_ok-plan.plan (original c.args.source.now.original.now c.args.source.now.layout.now) c.kept_digest-kept.result) c.kept_digest-kept.result c.requires.source.firm.firm
    c.requires.source.firm.library c.requires.source.found.layout c.in_ok-plan.ensures refl c.requires.flat c.kept_digest-kept.ensures.size c.requires.slot.below c.requires.slot.even c.requires.list.strings c.requires.list.rows

pub write_planned-requires-clause-names : goal.write_planned-requires-clause-names
write_planned-requires-clause-names c = names_ready c.args.source.now.original.now c.args.source.now.object.now c.requires.source.firm.firm.accepted

pub returns : goal.returns
returns c =
    subst (λ (xs : List ℕ). IfOk c.write_planned.result (λ v. v.items ≡ xs))
    (library_whole c.args.source.now.original.now c.args.source.now.layout.now c.args.mark.now.slot c.args.mark.now.stamp c.args.mark.now.checksum c.args.listed c.in_ok-plan.plan c.args.flat.now
    (undo_part c.in_ok-plan.plan (original c.args.source.now.original.now c.args.source.now.layout.now) c.kept_digest-kept.result) c.kept_digest-kept.result c.requires.source.found.layout c.in_ok-plan.ensures refl
    ∙ ap (form_of_library (original_of c.args.source.now.original.now) c.args.mark.now.slot c.args.mark.now.stamp c.args.mark.now.checksum c.args.listed c.args.flat.now)
    (c.kept_digest-kept.ensures.value ∙ ap (kept_digest c.args.version) c.requires.source.found.digest))
    c.write_planned.ensures
