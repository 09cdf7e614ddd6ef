use Rattle.std.proofs.Common.{◌∙◌, ap}
use Rattle.std.specs.Prelude.{position}
use Rattle.pl_build.specs.IndexedPlan.{is_version}
use Rattle.pl_build.specs.declared.layout_plan.LayoutPlan.{LayoutPlan}
use Rattle.pl_build.proofs.indexed_plan.IndexedPlan.version_position.Goals as goal

pub returns : goal.returns
returns c = c.first.ensures ∙ c.self.invariant.versions c.args.name.now ∙ ap (λ (p : LayoutPlan). position (is_version c.args.name.now) p.versions) c.self.view_is
