-- Where the symbols, versions and strings of a plan stand.
use Rattle.std.specs.Prelude.{ℕ, Bool, List}
use Rattle.std.specs.Str.{bytes_eq}
use Rattle.pl_build.specs.Relocations.{is_written_as}
use Rattle.pl_build.specs.StringTable.{has_text}
use Rattle.pl_build.specs.TextIndex.{IsIndexOf}
use Rattle.pl_build.specs.declared.layout_plan.LayoutPlan.{LayoutPlan}
use Rattle.pl_build.specs.declared.text_index.TextIndex.{TextIndex}

-- a version has a name
abbrev pub is_version : List ℕ → List ℕ → Bool
is_version name version = bytes_eq version name

-- each name has the place of the first symbol that is written so, each version and each text that of the first that it is
pub record IsIndexedPlan (plan : LayoutPlan) (by_symbol by_version by_text : TextIndex) : Type 0 where
  pub symbols : IsIndexOf is_written_as plan.symbols by_symbol
  pub versions : IsIndexOf is_version plan.versions by_version
  pub strings : IsIndexOf has_text plan.strings.entries by_text
