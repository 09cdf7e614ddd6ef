use Rattle.std.proofs.Common.{◌∙◌, ap, sym}
use Rattle.pl_build.specs.StringTable.{text_at}
use Rattle.pl_build.specs.declared.layout_plan.LayoutPlan.{LayoutPlan}
use Rattle.pl_build.proofs.TextLaws.{text_place}
use Rattle.pl_build.proofs.indexed_plan.IndexedPlan.text_at.Goals as goal

pub returns : goal.returns
returns c =
    (rw (c.as_slice.ensures, c.first.ensures) at c.at_place.ensures) ∙ sym (text_place c.self.inside.plan.now.strings c.self.inside.strings c.args.text.now c.self.invariant.strings)
    ∙ ap (λ (p : LayoutPlan). text_at p.strings c.args.text.now) c.self.view_is
