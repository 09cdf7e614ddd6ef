-- Laws of built files.
use Rattle.std.specs.Prelude.{◌≡◌, ℕ, List, [], length, map, filter, Ok}
use Rattle.pl_elf.specs.Clauses as elf
use Rattle.pl_build.specs.declared.constants.TheConstants.{TABLES_OFFSET}
use Rattle.pl_build.specs.declared.layout.Tables.{Tables}
use Rattle.pl_build.specs.declared.layout_plan.LayoutPlan.{LayoutPlan}
use Rattle.pl_build.specs.Layout.{tables}
use Rattle.pl_build.specs.LayoutPlan.{plan_of}
use Rattle.pl_build.specs.declared.recipe.Recipe.{Recipe}
use Rattle.law_demo.specs.Plain.{IsPlain}
use Rattle.law_demo.specs.Planned.{is_table, planned_header, IsHeaded}
use Rattle.pl_build.specs.File.{made}
use Rattle.law_demo.specs.Standing.{AreStanding, AreLaid}

-- the tables of every plan stand one after the other, behind whatever bytes precede them
abbrev pub TablesStand : Type 0
TablesStand = (p : LayoutPlan) (t : Tables) (front : List ℕ) → length front ≡ TABLES_OFFSET → tables p ≡ Ok t → AreLaid p front t

-- so they do in the file of every plan
abbrev pub FilesHoldTables : Type 0
FilesHoldTables = (p : LayoutPlan) (bytes : List ℕ) → made p ≡ Ok bytes → (t : Tables) × (tables p ≡ Ok t) × AreStanding p bytes TABLES_OFFSET [] t.places

-- of a plain recipe, a table stands for each section that has one, in the order of the sections
abbrev pub RolesStand : Type 0
RolesStand = (r : Recipe) (t : Tables) → IsPlain r → tables (plan_of r) ≡ Ok t → map (λ place. place.role) t.places ≡ filter is_table (plan_of r).roles

-- of a plain recipe, the header, the program header table and the section header table are read as its plan says
abbrev pub HeadsAreRead : Type 0
HeadsAreRead = (r : Recipe) (bytes : List ℕ) → IsPlain r → made (plan_of r) ≡ Ok bytes → (t : Tables) × (tables (plan_of r) ≡ Ok t) × IsHeaded (plan_of r) t bytes

-- so acceptance clauses 1 to 8 take it
abbrev pub FilesAreHeaded : Type 0
FilesAreHeaded = (r : Recipe) (bytes : List ℕ) → IsPlain r → made (plan_of r) ≡ Ok bytes → (t : Tables) × (tables (plan_of r) ≡ Ok t) × (elf.read bytes ≡ Ok (planned_header (plan_of r) t))
