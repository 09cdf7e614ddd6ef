use Rattle.std.proofs.Common.{ap, ◌∙◌}
use Rattle.pl_build.specs.LayoutPlan.{plan_of}
use Rattle.pl_build.specs.Derived.{assembled, derived_of}
use Rattle.pl_build.proofs.layout_plan.plan_of.Goals as goal

pub returns : goal.returns
unfolding plan_of derived_of
returns c = c.assembled.ensures ∙ ap (assembled c.args.recipe) c.in_ok-derived.ensures
