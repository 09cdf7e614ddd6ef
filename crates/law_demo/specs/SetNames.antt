-- The names that the recipes of a generated set have.
use Rattle.std.specs.Prelude.{◌≡◌, ◌<◌, ◌%◌, ◌==◌, ◌&&◌, ℕ, Bool, true, false, List, length}
use Rattle.std.specs.List.{AllByRecursion, list_any}
use Rattle.std.specs.Str.{bytes_eq}
use Rattle.pl_base.specs.Names.{is_valid_name}
use Rattle.pl_elf.specs.declared.constants.TheConstants.{R_X86_64_COPY}
use Rattle.pl_build.specs.declared.line.Relocation.{Relocation}
use Rattle.pl_build.specs.declared.line.SymbolLine.{SymbolLine}
use Rattle.pl_build.specs.declared.recipe.Recipe.{Recipe}
use Rattle.pl_gen.specs.Draws.{at}
use Rattle.pl_gen.specs.Lines.{library_name, program_name, object_name}
use Rattle.law_demo.specs.SetRecipes.{library_of, program_of}

-- a symbol is written as it is named
abbrev pub IsSpelled : SymbolLine → Type 0
IsSpelled s = s.written ≡ s.name

-- a symbol defines a name, and a relocation copies the object of a name
abbrev pub defines_name : List ℕ → SymbolLine → Bool
defines_name name s = s.defined && bytes_eq s.name name

abbrev pub copies_name : List ℕ → Relocation → Bool
copies_name name x = x.kind == R_X86_64_COPY && bytes_eq x.name name

abbrev pub is_needed : Recipe → List ℕ → Bool
is_needed r name = list_any (λ n. bytes_eq n name) r.needs

-- a library of the set, among so many
pub record IsLibraryAmong (count : ℕ) (name : List ℕ) : Type 0 where
  pub index : ℕ
  pub few : index < count
  pub named : name ≡ library_name index

-- a recipe of a set of so many libraries
pub record IsNamed (count : ℕ) (r : Recipe) : Type 0 where
  pub spelled : AllByRecursion IsSpelled r.symbols
  pub needs : (name : List ℕ) → 0 < count → is_needed r name ≡ true → IsLibraryAmong count name

-- a library copies nothing, and defines its object
pub record IsLibraryNamed (count i : ℕ) (r : Recipe) : Type 0 where
  pub named : IsNamed count r
  pub copies : (name : List ℕ) → list_any (copies_name name) r.relocations ≡ false
  pub defines : list_any (defines_name (object_name i)) r.symbols ≡ true

-- a program copies the object of a library that it needs, and of no other
pub record IsProgramNamed (count i : ℕ) (r : Recipe) : Type 0 where
  pub named : IsNamed count r
  pub copies : (name : List ℕ) → list_any (copies_name name) r.relocations ≡ true → name ≡ object_name i
  pub needed : is_needed r (library_name i) ≡ true

pub record RecipesAreNamed : Type 0 where
  pub libraries : (count i : ℕ) (words : List ℕ) → IsLibraryNamed count i (library_of count i words)
  pub programs : (count : ℕ) (words : List ℕ) → 0 < length words → IsProgramNamed count (at words 0 % count) (program_of count words)

-- ---- the names of files

abbrev pub NamesAreDistinct : (ℕ → List ℕ) → Type 0
NamesAreDistinct name_of = (m n : ℕ) → m < 1000 → n < 1000 → (m == n) ≡ false → bytes_eq (name_of m) (name_of n) ≡ false

pub record FilesAreNamed : Type 0 where
  pub libraries : (i : ℕ) → is_valid_name (library_name i) ≡ true
  pub programs : (j : ℕ) → is_valid_name (program_name j) ≡ true
  pub apart : NamesAreDistinct library_name
  pub programs_apart : NamesAreDistinct program_name
  pub kinds_apart : (i j : ℕ) → bytes_eq (library_name i) (program_name j) ≡ false
