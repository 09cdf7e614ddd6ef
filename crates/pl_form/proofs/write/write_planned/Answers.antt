use Rattle.std.proofs.Common.{ℕ, List, length, subst, sym, ap, ◌∙◌}
use Rattle.pl_form.specs.Fits.{Fits}
use Rattle.pl_form.specs.Originals.{original}
use Rattle.pl_form.specs.Parts.{form}
use Rattle.pl_form.proofs.write.write_planned.Goals as goal

pub undo_part-requires : goal.undo_part-requires
undo_part-requires c = c.requires.names.long

pub write_form-requires-clause-fits : goal.write_form-requires-clause-fits
write_form-requires-clause-fits c =
    subst (λ (u : List ℕ). Fits c.args.plan.now (original c.args.bytes.now c.args.layout.now) c.args.flat.now (length u)) (sym (c.deref.ensures.value ∙ c.in_ok-undo.ensures)) c.requires.fits

pub returns : goal.returns
returns c =
    c.in_ok-form.ensures
    ∙ ap (form c.args.plan.now (original c.args.bytes.now c.args.layout.now) c.args.flat.now) (c.deref.ensures.value ∙ c.in_ok-undo.ensures)
