-- Recipes of programs and libraries in their plainest form: no versions, no thread-local block, no packed words, no path of an interpreter.
use Rattle.std.specs.Prelude.{◌≡◌, ◌<◌, ◌≤◌, false, [], None}
use Rattle.std.specs.List.{AllByRecursion}
use Rattle.pl_build.specs.declared.constants.TheConstants.{MAX_BUCKETS, MAX_SPARE, MAX_DATA, MAX_BSS}
use Rattle.pl_build.specs.declared.line.SymbolLine.{SymbolLine}
use Rattle.pl_build.specs.declared.recipe.Settings.{Settings}
use Rattle.pl_build.specs.declared.recipe.Recipe.{Recipe}
use Rattle.pl_build.specs.FileKinds.{is_static, is_pie}

pub record ArePlain (s : Settings) : Type 0 where
  pub linked : is_static s.kind ≡ false
  pub fixed : is_pie s.kind ≡ false
  pub bare : s.usual ≡ false
  pub plain_order : s.symbolic ≡ false
  pub no_entry : s.entry ≡ None
  pub no_tls : s.tls ≡ None
  pub some_buckets : 0 < s.buckets
  pub few_buckets : s.buckets ≤ MAX_BUCKETS
  pub few_spare : s.spare ≤ MAX_SPARE
  pub few_data : s.data_size ≤ MAX_DATA
  pub few_bss : s.bss ≤ MAX_BSS

-- a symbol without version
pub record IsUnversioned (s : SymbolLine) : Type 0 where
  pub version : s.version ≡ []
  pub file : s.file ≡ []

pub record IsPlain (r : Recipe) : Type 0 where
  pub settings : ArePlain r.settings
  pub versions : r.versions ≡ []
  pub packed : r.packed ≡ []
  pub symbols : AllByRecursion IsUnversioned r.symbols
