-- How many loaders and runs a script may have, and its first line that is wrong.
use Rattle.std.specs.Prelude.{ℕ, Bool, true, false, nat_le, min, List, length, take, find, slice_get, Option, Some, None}
use Rattle.std.specs.List.{count_by, range_with_len}
use Rattle.pl_script.specs.declared.TheConstants.{MAX_LOADERS, MAX_RUNS}
use Rattle.pl_script.specs.declared.line.Line.{Line}
use Rattle.pl_script.specs.declared.line.Line.TheVariants.{Wrong, Load, Runs, Open, Rename}

abbrev pub is_load : Line → Bool
is_load Wrong = false
is_load (Load name) = true
is_load (Runs run) = false
is_load (Open loader) = false
is_load Rename = false

abbrev pub is_run : Line → Bool
is_run Wrong = false
is_run (Load name) = false
is_run (Runs run) = true
is_run (Open loader) = false
is_run Rename = false

-- how many loaders the lines `load` make, wherever they stand; none past the limit makes one
unfoldable pub loaders : List Line → ℕ
loaders lines = min MAX_LOADERS (count_by is_load lines)

-- with so many loaders, and behind these lines, a line is outside the grammar, past a limit, or names a loader that is not made
unfoldable pub is_wrong : ℕ → List Line → Line → Bool
is_wrong made before Wrong = true
is_wrong made before (Load name) = nat_le MAX_LOADERS (count_by is_load before)
is_wrong made before (Runs run) = nat_le MAX_RUNS (count_by is_run before)
is_wrong made before (Open loader) = nat_le made loader
is_wrong made before Rename = false

abbrev pub is_wrong_in : ℕ → List Line → Option Line → Bool
is_wrong_in made before None = false
is_wrong_in made before (Some line) = is_wrong made before line

-- the same of the line at an index
unfoldable pub is_wrong_at : ℕ → List Line → ℕ → Bool
is_wrong_at made lines index = is_wrong_in made (take index lines) (slice_get lines index)

-- the index of the first line that is wrong
unfoldable pub first_wrong : List Line → Option ℕ
first_wrong lines = find (is_wrong_at (loaders lines) lines) (range_with_len 0 (length lines))
