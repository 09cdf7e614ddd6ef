-- The tags between those of needed libraries and the spare ones.
use Rattle.std.specs.Prelude.{List, [], ◌∷◌, ◌++◌}
use Rattle.pl_dyn.specs.declared.tags.Tag.{Tag}
use Rattle.pl_build.specs.declared.layout_plan.LayoutPlan.{LayoutPlan}
use Rattle.pl_build.specs.declared.roles.PlacedSection.{PlacedSection}
use Rattle.pl_build.specs.Dynamic.{table_tags, relocation_tags, packed_tags, version_tags, usual_tags, end_tag}

-- where the other tables stand, what a usual file says, and the end
unfoldable pub placed_tags : LayoutPlan → List PlacedSection → List Tag
placed_tags p places =
    table_tags p places ++ relocation_tags places ++ packed_tags places ++ version_tags p places ++ usual_tags p ++ end_tag ∷ []
