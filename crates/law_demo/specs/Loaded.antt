-- The tables of a file as they are loaded.
use Rattle.std.specs.Prelude.{◌≡◌, ℕ, List, [], ◌∷◌, ◌++◌, Ok}
use Rattle.pl_base.specs.Windows.{Window}
use Rattle.pl_elf.specs.declared.segment.Segment.{Segment}
use Rattle.pl_object.specs.FilePart.{file_window, loaded}
use Rattle.pl_build.specs.declared.layout.Tables.{Tables}
use Rattle.pl_build.specs.declared.layout_plan.LayoutPlan.{LayoutPlan}
use Rattle.pl_build.specs.declared.recipe.Recipe.{Recipe}
use Rattle.pl_build.specs.declared.roles.PlacedSection.{PlacedSection}
use Rattle.pl_build.specs.File.{made}
use Rattle.pl_build.specs.Layout.{contents, tables}
use Rattle.pl_build.specs.LayoutPlan.{plan_of}
use Rattle.law_demo.specs.Plain.{IsPlain}
use Rattle.law_demo.specs.Planned.{planned_segments}

-- a table in memory
abbrev pub memory_of : PlacedSection → Window
memory_of place = record { at = place.addr; size = place.size }

-- its bytes are loaded at its address from its place in the file
pub record IsLoadedSection (p : LayoutPlan) (bytes : List ℕ) (ss : List Segment) (before : List PlacedSection) (place : PlacedSection) : Type 0 where
  pub window : file_window ss (memory_of place) ≡ record { at = place.offset; size = place.size }
  pub holds : loaded bytes ss (memory_of place) ≡ contents p before place.role

abbrev pub AreLoaded : LayoutPlan → List ℕ → List Segment → List PlacedSection → List PlacedSection → Type 0
AreLoaded p bytes ss before [] = Unit {0}
AreLoaded p bytes ss before (place ∷ places) = IsLoadedSection p bytes ss before place × AreLoaded p bytes ss (before ++ place ∷ []) places

-- each table of a plain recipe's file is
abbrev pub TablesAreLoaded : Type 0
TablesAreLoaded = (r : Recipe) (bytes : List ℕ) → IsPlain r → made (plan_of r) ≡ Ok bytes → (t : Tables) × (tables (plan_of r) ≡ Ok t) × AreLoaded (plan_of r) bytes (planned_segments (plan_of r) t) [] t.places
