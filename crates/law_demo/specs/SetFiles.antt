-- The files of a generated set.
use Rattle.std.specs.Prelude.{◌≡◌, ◌<◌, ℕ, List, length, map, Some, Ok}
use Rattle.std.specs.List.{range_with_len}
use Rattle.pl_elf.specs.declared.range.Range.{Range}
use Rattle.pl_build.specs.File.{made}
use Rattle.pl_build.specs.LayoutPlan.{plan_of}
use Rattle.law_demo.specs.SetRecipes.{library_of, program_of}
use Rattle.pl_gen.specs.Lines.{library_name}
use Rattle.law_sound.specs.Rule.{Files}
use Rattle.law_demo.specs.Candidates.{AreLibraries, IsProgramFile}
use Rattle.law_demo.specs.Forms.{IsAbove}

-- the names of so many libraries
abbrev pub library_names : ℕ → List (List ℕ)
library_names count = map library_name (range_with_len 0 count)

-- a name has the file of the library of an index, by these words
pub record HasLibrary (files : Files) (count i : ℕ) (words : List ℕ) : Type 0 where
  pub bytes : List ℕ
  pub made : made (plan_of (library_of count i words)) ≡ Ok bytes
  pub there : files (library_name i) ≡ Some bytes

-- and each index one by its own words
abbrev pub HasLibraries : Files → ℕ → (ℕ → List ℕ) → Type 0
HasLibraries files count words = (i : ℕ) → i < count → HasLibrary files count i (words i)

-- a name has the file of a program, by these words, of which there is one at least
pub record HasProgram (files : Files) (count : ℕ) (n words : List ℕ) : Type 0 where
  pub some : 0 < length words
  pub bytes : List ℕ
  pub made : made (plan_of (program_of count words)) ≡ Ok bytes
  pub there : files n ≡ Some bytes

-- the libraries of a set need one another alone, and its programs need them
abbrev pub SetLibrariesAreReady : Type 0
SetLibrariesAreReady = (files : Files) (count : ℕ) (words : ℕ → List ℕ) → 0 < count → count < 256 → HasLibraries files count words → AreLibraries files (library_names count)

abbrev pub SetProgramsAreReady : Type 0
SetProgramsAreReady = (files : Files) (count : ℕ) (words : ℕ → List ℕ) (region : Range) (n own : List ℕ) → 0 < count → HasLibraries files count words → HasProgram files count n own → IsAbove (program_of count own).settings region
    → IsProgramFile files (library_names count) region n
