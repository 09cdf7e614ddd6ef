-- What `--demo` prints.
use Rattle.std.specs.Prelude.{◌≡◌, ℕ, ◌+◌, ◌*◌, List, None}
use Rattle.std.specs.List.{flat_map}
use Rattle.pl_cli.specs.Demo.{demo_text, lines, load_texts, text_of}
use Rattle.pl_demo.specs.Demo.{counts, folder, programs}
use Rattle.pl_gen.specs.Set as drawn
use Rattle.pl_safe.specs.Ordinary.{ordinary}
use Rattle.pl_cone.specs.Skipped.{skip_causes}
use Rattle.pl_words.specs.declared.command.Policy.TheVariants.{Lowest}

-- the text of a load that links the originals of a set's files, at the same places
abbrev pub ordinary_text : ℕ → List ℕ → List ℕ
ordinary_text number name = text_of (ordinary skip_causes Lowest None (folder number) name)

abbrev pub ordinary_texts : ℕ → List ℕ
ordinary_texts number = flat_map (ordinary_text number) (programs number)

-- the texts of the loads of a set's programs are those
abbrev pub DemoTextsAreOrdinary : Type 0
DemoTextsAreOrdinary = (number : ℕ) → load_texts (folder number) (programs number) ≡ ordinary_texts number

-- how many relocations a set's files have: 128 a library and 65 a program
abbrev pub relocations : ℕ → ℕ
relocations number = 128 * drawn.libraries number + 65 * drawn.programs number

abbrev pub DemoRelocationsAreDrawn : Type 0
DemoRelocationsAreDrawn = (number : ℕ) → (counts number).relocations ≡ relocations number

-- so the five lines are those of as many files, relocations and fast loads as the number draws, of the conflict rows that there are, and of the texts of loads that link the originals
abbrev pub DemoTextIsDrawn : Type 0
DemoTextIsDrawn = (number : ℕ)
    → demo_text number ≡ lines (drawn.libraries number + drawn.programs number) (record { relocations = relocations number; conflicts = (counts number).conflicts }) (drawn.programs number) (ordinary_texts number)
