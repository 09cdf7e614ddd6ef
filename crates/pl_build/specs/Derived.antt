-- What is worked out of a recipe for its layout.
use Rattle.pl_build.specs.declared.recipe.Recipe.{Recipe}
use Rattle.pl_build.specs.declared.layout_plan.Derived.{Derived}
use Rattle.pl_build.specs.declared.layout_plan.LayoutPlan.{LayoutPlan}
use Rattle.pl_build.specs.Symbols.{ordered}
use Rattle.pl_build.specs.Needed.{needs_of, files_of}
use Rattle.pl_build.specs.LayoutPlan.{data_words, strings_of, roles_of}

-- what a plan has and its recipe has not as it is
unfoldable pub derived_of : Recipe → Derived
derived_of r =
    let symbols = ordered r.settings r.symbols in
    let needs = needs_of r.symbols in
    let files = files_of needs in
    record {
      words = data_words r;
      needs = needs;
      roles = roles_of r needs;
      symbols = symbols;
      files = files;
      strings = strings_of r symbols needs files;
    }

-- the plan of a recipe, with what is worked out of it
abbrev pub assembled : Recipe → Derived → LayoutPlan
assembled r d = record {
  settings = r.settings;
  needed = r.needs;
  words = d.words;
  versions = r.versions;
  symbols = d.symbols;
  relocations = r.relocations;
  packed = r.packed;
  needs = d.needs;
  files = d.files;
  strings = d.strings;
  roles = d.roles;
}
