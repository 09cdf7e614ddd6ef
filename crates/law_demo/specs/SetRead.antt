-- How the files of a generated set are read.
use Rattle.std.specs.Prelude.{◌≡◌, ◌≤◌, ◌^◌, ℕ, List, length, Ok}
use Rattle.pl_build.specs.declared.layout.Tables.{Tables}
use Rattle.pl_build.specs.declared.recipe.Recipe.{Recipe}
use Rattle.pl_build.specs.Build.{build}
use Rattle.pl_build.specs.File as file
use Rattle.pl_build.specs.Layout as layout
use Rattle.pl_build.specs.LayoutPlan.{plan_of}
use Rattle.pl_gen.specs.Set.{library_recipe, program_recipe}
use Rattle.law_demo.specs.Accepted.{IsAccepted}
use Rattle.law_demo.specs.Made.{IsBounded}
use Rattle.law_demo.specs.Modest.{IsModest}
use Rattle.law_demo.specs.Plain.{IsPlain}
use Rattle.law_demo.specs.SetRecipes.{library_of, program_of}

-- a recipe of the class whose files are accepted
pub record IsFine (r : Recipe) : Type 0 where
  pub plain : IsPlain r
  pub modest : IsModest r
  pub bounded : IsBounded r

-- a text of at most 1 MiB is built into the file of a recipe, which has at most 2 MiB and is accepted with the object that this recipe describes
pub record IsRead (text : List ℕ) (r : Recipe) : Type 0 where
  pub short : length text ≤ 2 ^ 20
  pub fine : IsFine r
  pub bytes : List ℕ
  pub built : build text ≡ Ok bytes
  pub made : file.made (plan_of r) ≡ Ok bytes
  pub small : length bytes ≤ 2 ^ 21
  pub t : Tables
  pub tables : layout.tables (plan_of r) ≡ Ok t
  pub accepted : IsAccepted r bytes t

-- so it is of each library and each program of a set, whatever words are drawn
pub record SetIsRead : Type 0 where
  pub libraries : (count i : ℕ) (words : List ℕ) → IsRead (library_recipe count i words) (library_of count i words)
  pub programs : (count : ℕ) (words : List ℕ) → IsRead (program_recipe count words) (program_of count words)
