-- Folders all of whose names can be prelinked.
use Rattle.std.specs.Prelude.{◌≡◌, ◌⊎◌, ◌<◌, ◌≤◌, ◌+◌, ◌^◌, ℕ, true, false, List, length, Some, Ok}
use Rattle.std.specs.List.{AllByRecursion, list_any}
use Rattle.pl_base.specs.Bytes.{IsBytes}
use Rattle.pl_elf.specs.Headers.{loads}
use Rattle.pl_elf.specs.declared.constants.TheConstants.{PAGE}
use Rattle.pl_elf.specs.declared.kind.Kind.{Kind}
use Rattle.pl_elf.specs.declared.kind.Kind.TheVariants as elf
use Rattle.pl_elf.specs.declared.range.Range.{Range}
use Rattle.pl_object.specs.Reads.{reads}
use Rattle.pl_object.specs.declared.object.Object.{Object}
use Rattle.pl_build.specs.declared.kind.FileKind.{FileKind}
use Rattle.pl_build.specs.declared.kind.FileKind.TheVariants.{Library, Pie, Program, Static}
use Rattle.pl_build.specs.declared.recipe.Recipe.{Recipe}
use Rattle.pl_build.specs.File.{made}
use Rattle.pl_build.specs.LayoutPlan.{plan_of}
use Rattle.pl_cone.specs.Fits.{fit_in}
use Rattle.pl_cone.specs.Skipped.{skip_causes}
use Rattle.pl_conflict.specs.Format.{format}
use Rattle.pl_scope.specs.Members.{has}
use Rattle.pl_scope.specs.declared.constants.TheConstants.{MAX_MEMBERS}
use Rattle.law_sound.specs.Plan.{is_candidate}
use Rattle.law_sound.specs.Rule.{Files, objects}
use Rattle.law_demo.specs.SetNames.{copies_name, defines_name}
use Rattle.law_demo.specs.Described.{IsDescribing}
use Rattle.law_demo.specs.Forms.{HasRoom, IsAbove, IsBare}

-- a name has the file that a recipe of a kind describes, which needs no name but these
pub record HasFile (files : Files) (all : List (List ℕ)) (kind : FileKind) (n : List ℕ) (r : Recipe) : Type 0 where
  pub same_kind : r.settings.kind ≡ kind
  pub describing : IsDescribing r
  pub room : HasRoom r.settings
  pub bytes : List ℕ
  pub made : made (plan_of r) ≡ Ok bytes
  pub there : files n ≡ Some bytes
  pub needs : (m : List ℕ) → has r.needs m ≡ true → has all m ≡ true

-- a library, which copies nothing
pub record IsLibraryFile (files : Files) (all : List (List ℕ)) (n : List ℕ) : Type 0 where
  pub recipe : Recipe
  pub file : HasFile files all Library n recipe
  pub copies : (name : List ℕ) → list_any (copies_name name) recipe.relocations ≡ false

-- all of them are libraries, and fewer than a walk may have
pub record AreLibraries (files : Files) (all : List (List ℕ)) : Type 0 where
  pub few : length all < MAX_MEMBERS
  pub each : (n : List ℕ) → has all n ≡ true → IsLibraryFile files all n

-- a recipe needs a library whose recipe defines a name
pub record IsDefined (files : Files) (all : List (List ℕ)) (r : Recipe) (name : List ℕ) : Type 0 where
  pub library : List ℕ
  pub needed : has r.needs library ≡ true
  pub recipe : Recipe
  pub file : HasFile files all Library library recipe
  pub defines : list_any (defines_name name) recipe.symbols ≡ true

-- a program below a region, which copies objects that libraries define which it needs
pub record IsProgramFile (files : Files) (all : List (List ℕ)) (region : Range) (n : List ℕ) : Type 0 where
  pub recipe : Recipe
  pub file : HasFile files all Program n recipe
  pub above : IsAbove recipe.settings region
  pub copies : (name : List ℕ) → list_any (copies_name name) recipe.relocations ≡ true → IsDefined files all recipe name

-- each of the libraries can be prelinked under every region,
abbrev pub LibrariesAreCandidates : Type 0
LibrariesAreCandidates = (files : Files) (all : List (List ℕ)) (region : Range) (n : List ℕ) → AreLibraries files all → has all n ≡ true → is_candidate (format skip_causes) (fit_in region) files n ≡ true

-- and so can each such program
abbrev pub ProgramsAreCandidates : Type 0
ProgramsAreCandidates = (files : Files) (all : List (List ℕ)) (region : Range) (n : List ℕ) → AreLibraries files all → IsProgramFile files all region n → is_candidate (format skip_causes) (fit_in region) files n ≡ true

-- ---- what else a run asks of such files

-- a file without mark, whose object lies low and is aligned by pages
pub record IsKnownFile (files : Files) (kind : Kind) (n : List ℕ) (r : Recipe) : Type 0 where
  pub bytes : List ℕ
  pub file : files n ≡ Some bytes
  pub written : IsBytes bytes
  pub bare : IsBare bytes
  pub object : Object
  pub there : objects (format skip_causes) files n ≡ Ok object
  pub accepted : reads bytes ≡ Ok object
  pub same_kind : object.kind ≡ kind
  pub needed : object.needed ≡ r.needs
  pub align : object.align ≡ PAGE
  pub span : object.span ≤ 2 ^ 26
  pub low : AllByRecursion (λ s. s.vaddr + s.memsz ≤ 2 ^ 26) (loads object.segments)

abbrev pub kind_for : FileKind → Kind
kind_for Program = elf.Program
kind_for Pie = elf.Library
kind_for Library = elf.Library
kind_for Static = elf.Static

abbrev pub FilesAreKnown : Type 0
FilesAreKnown = (files : Files) (all : List (List ℕ)) (kind : FileKind) (n : List ℕ) (r : Recipe) → (kind ≡ Library) ⊎ (kind ≡ Program) → HasFile files all kind n r → IsKnownFile files (kind_for kind) n r
