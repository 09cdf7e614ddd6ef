-- The files of a set, each made from its recipe.
use Rattle.std.specs.Prelude.{ℕ, Bool, true, false, List, [], length, nat_lt, fold, Option, Some, None, Result, Ok, Err, string_bytes, if◌then◌else◌}
use Rattle.std.specs.FinMap.{insert}
use Rattle.pl_base.specs.Files.{Files, files_of}
use Rattle.pl_base.specs.Names.{is_valid_name}
use Rattle.pl_build.specs.Build.{build}
use Rattle.pl_build.specs.declared.checks.Fault.{Fault}
use Rattle.pl_build.specs.declared.fault.RecipeFault.{RecipeFault}
use Rattle.pl_build.specs.declared.fault.RecipeFault.TheVariants.{Bad, NoMemory}
use Rattle.pl_folder.specs.declared.TheConstants.{STORED}
use Rattle.pl_gen.specs.declared.set.DemoFile.{DemoFile}
use Rattle.pl_demo.specs.declared.making.TheConstants.{RECIPE}

-- ---- one file

-- a file that a folder stores
abbrev pub if_stored : List ℕ → Option (List ℕ)
if_stored bytes = if nat_lt STORED (length bytes) then None else Some bytes

-- what was built; a recipe with a fault has no file
abbrev pub built : Result (List ℕ) Fault → Option (List ℕ)
built (Ok bytes) = if_stored bytes
built (Err fault) = None

-- the file that a recipe describes, as a recipe is taken that is stored by its file: it has at most 1 MiB, and the file is one that a folder stores
unfoldable pub made : List ℕ → Option (List ℕ)
made recipe = if nat_lt RECIPE (length recipe) then None else built (build recipe)

-- a fault of a recipe that is no want of memory
abbrev pub is_bad : RecipeFault → Bool
is_bad (Bad line kind) = true
is_bad NoMemory = false

-- ---- all files

abbrev pub with_made : Option (List ℕ) → List ℕ → Files → Files
with_made None name files = files
with_made (Some bytes) name files = insert files name bytes

-- a file more, under a valid name; where there is none the files stay as they are
unfoldable pub with_file : Files → List ℕ × List ℕ → Files
with_file files file = if is_valid_name file.0 then with_made (made file.1) file.0 files else files

abbrev pub no_files : Files
no_files = files_of []

-- the files of names and recipes, made one after the other
unfoldable pub made_files : List (List ℕ × List ℕ) → Files
made_files set = fold with_file no_files set

-- ---- as the code has it

abbrev pub entry : DemoFile → List ℕ × List ℕ
entry file = (string_bytes file.name, string_bytes file.recipe)

abbrev pub with_demo_file : Files → DemoFile → Files
with_demo_file files file = with_file files (entry file)
