-- The tags of a built file.
use Rattle.std.specs.Prelude.{◌≡◌, List, ◌++◌, Ok}
use Rattle.std.specs.List.{AllByRecursion}
use Rattle.pl_dyn.specs.Read as dyn
use Rattle.pl_dyn.specs.declared.tags.Tag.{Tag}
use Rattle.pl_build.specs.declared.layout_plan.LayoutPlan.{LayoutPlan}
use Rattle.pl_build.specs.declared.roles.PlacedSection.{PlacedSection}
use Rattle.pl_build.specs.Dynamic.{needed_tags, table_tags, relocation_tags, packed_tags, version_tags, usual_tags, dynamic_table}
use Rattle.law_demo.specs.Rows.{FitsTag}

-- before the entry that ends the table, where the tables stand at these places
unfoldable pub planned_tags : LayoutPlan → List PlacedSection → List Tag
planned_tags p places = needed_tags p ++ table_tags p places ++ relocation_tags places ++ packed_tags places ++ version_tags p places ++ usual_tags p

-- the dynamic table of every plan says its tags, and as many spare entries as its recipe; acceptance clauses 9 to 11 refuse none
abbrev pub DynamicIsRead : Type 0
DynamicIsRead = (p : LayoutPlan) (places : List PlacedSection) → AllByRecursion FitsTag (planned_tags p places) → dyn.read (dynamic_table p places) ≡ Ok (record { tags = planned_tags p places; spare = p.settings.spare })
