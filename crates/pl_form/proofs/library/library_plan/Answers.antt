use Rattle.std.proofs.Common.{refl, ◌∙◌}
use Rattle.pl_form.specs.Originals.{original}
use Rattle.pl_form.proofs.PlanLaws.{library_plan_is}
use Rattle.pl_form.proofs.library.library_plan.Goals as goal

pub returns : goal.returns
returns c =
    c.plan_of.ensures
    ∙ library_plan_is (original c.args.bytes.now c.args.layout.now) c.args.mark.now.slot c.args.mark.now.stamp c.args.mark.now.checksum _ c.args.listed c.new.result c.in_ok-tables.tables c.in_ok-parts.parts refl c.new.ensures c.in_ok-tables.ensures c.in_ok-parts.ensures
