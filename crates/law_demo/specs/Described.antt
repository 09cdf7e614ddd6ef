-- Objects that plain and modest recipes describe, as members of a scope.
use Rattle.std.specs.Prelude.{◌≡◌, ◌⊎◌, ◌<◌, ℕ, true, suc, List, slice_get, Some, Ok}
use Rattle.std.specs.List.{AllByRecursion, list_any}
use Rattle.pl_elf.specs.declared.constants.TheConstants.{R_X86_64_COPY}
use Rattle.pl_object.specs.declared.object.Object.{Object}
use Rattle.pl_object.specs.declared.reloc.Reloc.{Reloc}
use Rattle.pl_sym.specs.Definers.{is_definition}
use Rattle.pl_sym.specs.declared.symbol.Symbol as read
use Rattle.pl_build.specs.declared.layout.Tables.{Tables}
use Rattle.pl_build.specs.declared.recipe.Recipe.{Recipe}
use Rattle.pl_build.specs.declared.roles.PlacedSection.{PlacedSection}
use Rattle.pl_build.specs.Layout.{tables}
use Rattle.pl_build.specs.LayoutPlan.{plan_of}
use Rattle.law_demo.specs.Accepted.{planned_object}
use Rattle.law_demo.specs.Made.{IsBounded}
use Rattle.law_demo.specs.Modest.{IsModest}
use Rattle.law_demo.specs.Plain.{IsPlain}
use Rattle.law_demo.specs.SetNames.{IsSpelled, copies_name, defines_name}
use Rattle.law_demo.specs.Links.{ChangesWord, HasSettledSymbols, IsLoaded}

-- a recipe with data, of symbols that are written as they are named
pub record IsDescribing (r : Recipe) : Type 0 where
  pub plain : IsPlain r
  pub modest : IsModest r
  pub bounded : IsBounded r
  pub some_data : 0 < r.settings.data_size
  pub spelled : AllByRecursion IsSpelled r.symbols

-- a relocation copies the bytes of an object of its recipe, which its own symbol has room for
pub record CopiesNamed (r : Recipe) (o : Object) (x : Reloc) : Type 0 where
  pub kind : x.kind ≡ R_X86_64_COPY
  pub index : ℕ
  pub is : x.symbol ≡ suc index
  pub symbol : read.Symbol
  pub at : slice_get o.symbols (suc index) ≡ Some symbol
  pub own : IsLoaded o.segments symbol
  pub named : list_any (copies_name symbol.name) r.relocations ≡ true

-- an object has a definition of a name
pub record HasDefinition (o : Object) (name : List ℕ) : Type 0 where
  pub index : ℕ
  pub symbol : read.Symbol
  pub at : slice_get o.symbols (suc index) ≡ Some symbol
  pub definition : is_definition symbol ≡ true
  pub named : symbol.name ≡ name

-- the object of such a recipe: its symbols are settled, its relocations change words or copy objects, and it defines what the recipe defines
pub record IsSettledObject (r : Recipe) (o : Object) : Type 0 where
  pub symbols : HasSettledSymbols o
  pub relocs : (k : ℕ) (x : Reloc) → slice_get o.relocations k ≡ Some x → ChangesWord o x ⊎ CopiesNamed r o x
  pub definers : (name : List ℕ) → list_any (defines_name name) r.symbols ≡ true → HasDefinition o name

abbrev pub DescribedObjectsAreSettled : Type 0
DescribedObjectsAreSettled = (r : Recipe) (t : Tables) (before : List PlacedSection) → IsDescribing r → tables (plan_of r) ≡ Ok t → IsSettledObject r (planned_object r t before)
