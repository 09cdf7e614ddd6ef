-- The set of files that a number draws, made in a folder of its own and prelinked there.
use Rattle.std.specs.Prelude.{ℕ, Bool, List, [], ◌∷◌, codes, filter, length, map, nat_eq, string_bytes, if◌then◌else◌}
use Rattle.std.specs.List.{starts_with}
use Rattle.pl_base.specs.Files.{Files}
use Rattle.pl_gen.specs.Set.{demo_set}
use Rattle.pl_gen.specs.declared.set.DemoFile.{DemoFile}
use Rattle.pl_demo.specs.declared.counting.Counts.{Counts}
use Rattle.pl_demo.specs.Counted.{all_counts}
use Rattle.pl_demo.specs.Made.{made_files}
use Rattle.pl_demo.specs.Prelinked.{prelinked}

-- the names of the set, in the order in which it draws them
unfoldable pub names : ℕ → List (List ℕ)
names number = map (λ file. file.0) (demo_set number)

-- how many files it has
unfoldable pub size : ℕ → ℕ
size number = length (demo_set number)

-- the folder: the files of the set, prelinked
unfoldable pub folder : ℕ → Files
folder number = prelinked (made_files (demo_set number))

-- how many relocations and conflict rows its files have
unfoldable pub counts : ℕ → Counts
counts number = all_counts (folder number) (names number)

-- a program's name
unfoldable pub is_program : List ℕ → Bool
is_program name = starts_with nat_eq name (codes "prog")

-- the names of its programs, in that order
unfoldable pub programs : ℕ → List (List ℕ)
programs number = filter is_program (names number)

-- ---- as the code has it

-- the name of a file, where it is a program's
abbrev pub program_name : DemoFile → List (List ℕ)
program_name file = if is_program (string_bytes file.name) then string_bytes file.name ∷ [] else []
