-- Recipes whose files are small enough to be made.
use Rattle.std.specs.Prelude.{◌≡◌, ◌≤◌, List, ℕ, length, Ok}
use Rattle.pl_build.specs.File.{made}
use Rattle.pl_build.specs.LayoutPlan.{plan_of}
use Rattle.pl_build.specs.declared.recipe.Recipe.{Recipe}
use Rattle.law_demo.specs.Modest.{IsModest}
use Rattle.law_demo.specs.Plain.{IsPlain}

pub record IsBounded (r : Recipe) : Type 0 where
  pub needs : length r.needs ≤ 64
  pub symbols : length r.symbols ≤ 512
  pub relocations : length r.relocations ≤ 512

-- the file of such a recipe, plain and modest, is made
abbrev pub BoundedIsMade : Type 0
BoundedIsMade = (r : Recipe) → IsPlain r → IsModest r → IsBounded r → (bytes : List ℕ) × (made (plan_of r) ≡ Ok bytes)
