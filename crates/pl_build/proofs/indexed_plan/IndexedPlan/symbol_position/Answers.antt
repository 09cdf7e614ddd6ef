use Rattle.std.proofs.Common.{◌∙◌, ap}
use Rattle.std.specs.Prelude.{position}
use Rattle.pl_build.specs.Relocations.{is_written_as}
use Rattle.pl_build.specs.declared.layout_plan.LayoutPlan.{LayoutPlan}
use Rattle.pl_build.proofs.indexed_plan.IndexedPlan.symbol_position.Goals as goal

pub returns : goal.returns
returns c = c.first.ensures ∙ c.self.invariant.symbols c.args.name.now ∙ ap (λ (p : LayoutPlan). position (is_written_as c.args.name.now) p.symbols) c.self.view_is
