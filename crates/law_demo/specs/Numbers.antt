-- Numbers of a recipe.
use Rattle.std.specs.Prelude.{◌≡◌, ℕ, ◌^◌, ◌<◌, false, Some}
use Rattle.std.specs.Fmt.{digits}
use Rattle.pl_build.specs.Words.{number}

-- a number of 64 bits, written in hexadecimal digits, is read as itself
abbrev pub NumbersAreRead : Type 0
NumbersAreRead = (n : ℕ) → n < 2 ^ 64 → number (digits 16 false n) ≡ Some n
