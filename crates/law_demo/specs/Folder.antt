-- The folder of a generated set before it is prelinked.
use Rattle.std.specs.Prelude.{◌≡◌, ◌<◌, ◌*◌, ◌^◌, ℕ, true, List, Ok}
use Rattle.pl_base.specs.Files as base
use Rattle.pl_batch.specs.Changes.{run_meant}
use Rattle.pl_batch.specs.Folder.{named}
use Rattle.pl_change.specs.Restored.{restored}
use Rattle.pl_batch.specs.declared.run.Run.TheVariants.{All}
use Rattle.pl_conflict.specs.Format.{format}
use Rattle.pl_demo.specs.Made.{made_files}
use Rattle.pl_demo.specs.declared.prelinking.TheConstants.{ASKED}
use Rattle.law_demo.specs.Small.{Bounds, IsSmallFolder}
use Rattle.pl_gen.specs.Draws.{after, seeded, words}
use Rattle.pl_gen.specs.Lines.{library_name, program_name}
use Rattle.pl_gen.specs.Set as drawn
use Rattle.pl_journal.specs.declared.change.Change.{Change}
use Rattle.pl_cone.specs.Fits.{fit_in}
use Rattle.pl_cone.specs.Skipped.{skip_causes}
use Rattle.law_demo.specs.SetFiles.{HasLibraries, HasProgram}
use Rattle.law_sound.specs.Plan.{is_candidate}
use Rattle.law_sound.specs.Rule.{Files}

-- the files of a set as they are made
abbrev pub made : ℕ → base.Files
made number = restored (made_files (drawn.demo_set number))

-- under their names
abbrev pub files_of : ℕ → Files
files_of number = named (made number)

-- the words that a library of a number draws, and those of a program
abbrev pub drawn_library_words : ℕ → ℕ → List ℕ
drawn_library_words number i = words 322 (after (322 * i) (after 2 (seeded number)))

abbrev pub drawn_program_words : ℕ → ℕ → List ℕ
drawn_program_words number j = words 131 (after (131 * j) (after (322 * drawn.libraries number) (after 2 (seeded number))))

-- at most 128 files of 2 MiB, with 128 MiB of addresses each
abbrev pub bounds : Bounds
bounds = record { files = 128; bytes = 2 ^ 21; addresses = 2 ^ 27 }

-- each name has the file that its recipe describes, by the words that it draws, and they are small
pub record IsDemoFolder (number : ℕ) : Type 0 where
  pub libraries : HasLibraries (files_of number) (drawn.libraries number) (drawn_library_words number)
  pub programs : (j : ℕ) → j < drawn.programs number → HasProgram (files_of number) (drawn.libraries number) (program_name j) (drawn_program_words number j)
  pub small : IsSmallFolder bounds (made number)

-- the run of `--demo` is not refused, and can prelink each name
pub record IsDemoReady (number : ℕ) : Type 0 where
  pub folder : IsDemoFolder number
  pub rows : List Change
  pub runs : run_meant (All ASKED) (made number) ≡ Ok rows
  pub libraries : (i : ℕ) → i < drawn.libraries number → is_candidate (format skip_causes) (fit_in ASKED.region) (files_of number) (library_name i) ≡ true
  pub programs : (j : ℕ) → j < drawn.programs number → is_candidate (format skip_causes) (fit_in ASKED.region) (files_of number) (program_name j) ≡ true

-- so it is of every number
abbrev pub DemosAreReady : Type 0
DemosAreReady = (number : ℕ) → IsDemoReady number
