-- What holds of every set.
use Rattle.std.specs.Prelude.{◌≡◌, ℕ, ◌+◌, map}
use Rattle.std.specs.List.{range_with_len}
use Rattle.pl_gen.specs.Lines.{program_name}
use Rattle.pl_gen.specs.Set as drawn
use Rattle.pl_demo.specs.Demo.{programs, size}

-- it has as many files as it draws libraries and programs,
abbrev pub SizesAreSums : Type 0
SizesAreSums = (number : ℕ) → size number ≡ drawn.libraries number + drawn.programs number

-- and its programs are those that it draws, in their order
abbrev pub ProgramsAreDrawn : Type 0
ProgramsAreDrawn = (number : ℕ) → programs number ≡ map program_name (range_with_len 0 (drawn.programs number))
