-- The object that the file of a plain and modest recipe is read as.
use Rattle.std.specs.Prelude.{◌≡◌, ℕ, List, [], ◌∷◌, ◌++◌, None, Ok, if◌then◌else◌}
use Rattle.pl_dyn.specs.declared.dynamic.Dynamic.{Dynamic}
use Rattle.pl_hash.specs.Table.{HashTable}
use Rattle.pl_object.specs.Reads.{object, reads}
use Rattle.pl_object.specs.Tables.{link_windows}
use Rattle.pl_object.specs.declared.headers.Headers.{Headers}
use Rattle.pl_object.specs.declared.layout.Layout.{Layout}
use Rattle.pl_object.specs.declared.linking.Linking.{Linking}
use Rattle.pl_object.specs.declared.object.Object.{Object}
use Rattle.pl_build.specs.declared.layout.Tables.{Tables}
use Rattle.pl_build.specs.declared.layout_plan.LayoutPlan.{LayoutPlan}
use Rattle.pl_build.specs.declared.recipe.Recipe.{Recipe}
use Rattle.pl_build.specs.declared.roles.PlacedSection.{PlacedSection}
use Rattle.pl_build.specs.declared.roles.Role.TheVariants.{Dynamic as DynamicTable}
use Rattle.pl_build.specs.File.{made}
use Rattle.pl_build.specs.Layout.{tables}
use Rattle.pl_build.specs.LayoutPlan.{plan_of}
use Rattle.law_demo.specs.Gnu.{gnu_of}
use Rattle.law_demo.specs.Hashes.{sysv_of}
use Rattle.law_demo.specs.Modest.{IsModest}
use Rattle.law_demo.specs.Plain.{IsPlain}
use Rattle.law_demo.specs.Planned.{planned_header, planned_segments, planned_sections}
use Rattle.law_demo.specs.Relocs.{planned_symbols, planned_relocs}
use Rattle.law_demo.specs.Shape.{Extents, place_in, before_dynamic}
use Rattle.law_demo.specs.Tags.{planned_tags}

unfoldable pub planned_heads : LayoutPlan → Tables → Headers
planned_heads p t = record { header = planned_header p t; segments = planned_segments p t; sections = planned_sections p t }

unfoldable pub planned_dynamic : LayoutPlan → List PlacedSection → Dynamic
planned_dynamic p before = record { tags = planned_tags p before; spare = p.settings.spare }

-- the needed names are the recipe's
unfoldable pub planned_linking : Recipe → Linking
planned_linking r = record { needed = r.needs; symbols = planned_symbols (plan_of r); versions = None }

unfoldable pub planned_hashes : Recipe → List HashTable
planned_hashes r = (if r.settings.hashes.sysv then sysv_of (plan_of r) ∷ [] else []) ++ (if r.settings.hashes.gnu then gnu_of (plan_of r) ∷ [] else [])

unfoldable pub planned_layout : Recipe → Tables → List PlacedSection → Layout
planned_layout r t before = record {
  hashes = planned_hashes r;
  relocations = planned_relocs (plan_of r);
  packed = 0;
  windows = link_windows (planned_header (plan_of r) t) (planned_segments (plan_of r) t) (planned_sections (plan_of r) t) (planned_tags (plan_of r) before);
}

unfoldable pub planned_object : Recipe → Tables → List PlacedSection → Object
planned_object r t before = object (planned_heads (plan_of r) t) (planned_dynamic (plan_of r) before) (planned_linking r) (planned_layout r t before)

pub record IsAccepted (r : Recipe) (bytes : List ℕ) (t : Tables) : Type 0 where
  pub extents : Extents
  pub places : t.places ≡ before_dynamic r extents ++ place_in DynamicTable extents.dynamic ∷ []
  pub reads : reads bytes ≡ Ok (planned_object r t (before_dynamic r extents))

-- the file of a plain and modest recipe is accepted, with the object that the recipe describes
abbrev pub PlainIsAccepted : Type 0
PlainIsAccepted = (r : Recipe) (bytes : List ℕ) → IsPlain r → IsModest r → made (plan_of r) ≡ Ok bytes → (t : Tables) × (tables (plan_of r) ≡ Ok t) × IsAccepted r bytes t
