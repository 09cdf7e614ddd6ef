-- The lines of the recipes of a generated set.
use Rattle.std.specs.Prelude.{◌≡◌, ℕ, ◌+◌, ◌%◌, Bool, true, false, List, [], ◌∷◌, ◌++◌, map}
use Rattle.pl_build.specs.declared.kind.FileKind.{FileKind}
use Rattle.pl_build.specs.declared.kind.FileKind.TheVariants.{Program, Library}
use Rattle.pl_build.specs.declared.line.Line.{Line}
use Rattle.pl_build.specs.declared.line.Line.TheVariants.{Empty, First, Hash, Buckets, Needs, Data, Bss, Names, Relocates}
use Rattle.pl_build.specs.Build.{build, lines}
use Rattle.pl_build.specs.File.{made}
use Rattle.pl_build.specs.LayoutPlan.{plan_of}
use Rattle.pl_gen.specs.Draws.{at}
use Rattle.pl_gen.specs.Lines.{library_name, kind_of, known_after}
use Rattle.pl_gen.specs.Set.{functions, needed, library_recipe, program_recipe}
use Rattle.pl_gen.specs.declared.relocation_kind.RelocationKind.{RelocationKind}
use Rattle.law_demo.specs.SetRecipes.{needed_names, own_functions, own_object, reference, relocation_of, copy_of, library_words, program_words, library_of, program_of}

abbrev pub first_lines : FileKind → Bool → List Line
first_lines kind sysv = First kind ∷ Hash (record { sysv = sysv; gnu = true }) ∷ Buckets 8 ∷ []

-- a relocation, behind the line of its function where that has none yet
unfoldable pub relocation_lines : List ℕ → ℕ → RelocationKind → ℕ → List Line
relocation_lines known place kind word = map Names (reference known kind word) ++ Relocates (relocation_of place kind word) ∷ []

-- relocations from a place on, of two words each
unfoldable pub all_relocation_lines : List ℕ → ℕ → List ℕ → List Line
all_relocation_lines known place (kind ∷ word ∷ more) = relocation_lines known place (kind_of kind) word ++ all_relocation_lines (known_after known (kind_of kind) word) (place + 8) more
all_relocation_lines known place (kind ∷ []) = []
all_relocation_lines known place [] = []

unfoldable pub library_lines : ℕ → ℕ → List ℕ → List Line
library_lines count i words =
    first_lines Library true
    ++ (Needs (library_name ((i + 1) % count)) ∷ Needs (library_name (at words 0 % count)) ∷ Needs (library_name (at words 1 % count)) ∷ []
    ++ (Data 0x1000 ∷ []
    ++ (map Names (own_functions [] 0 (functions words))
    ++ (Names (own_object i) ∷ []
    ++ all_relocation_lines (functions words) 0x808 (library_words words)))))

unfoldable pub program_lines : ℕ → List ℕ → List Line
program_lines count words =
    first_lines Program false
    ++ (map Needs (needed_names [] (needed count words))
    ++ (Data 0x800 ∷ []
    ++ (all_relocation_lines [] 0 (program_words words)
    ++ (Bss 8 ∷ []
    ++ (Names (own_object (at words 0 % count)) ∷ []
    ++ Relocates (copy_of (at words 0 % count)) ∷ [])))))

-- the recipes of a set spell these lines, and end with a newline
abbrev pub LibrariesSpell : Type 0
LibrariesSpell = (count i : ℕ) (words : List ℕ) → lines (library_recipe count i words) ≡ library_lines count i words ++ Empty ∷ []

abbrev pub ProgramsSpell : Type 0
ProgramsSpell = (count : ℕ) (words : List ℕ) → lines (program_recipe count words) ≡ program_lines count words ++ Empty ∷ []

-- they have no fault, and are built as the recipes that they describe
abbrev pub LibrariesAreBuilt : Type 0
LibrariesAreBuilt = (count i : ℕ) (words : List ℕ) → build (library_recipe count i words) ≡ made (plan_of (library_of count i words))

abbrev pub ProgramsAreBuilt : Type 0
ProgramsAreBuilt = (count : ℕ) (words : List ℕ) → build (program_recipe count words) ≡ made (plan_of (program_of count words))
