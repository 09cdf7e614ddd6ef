-- Parts of a line that may be missing.
use Rattle.std.specs.Prelude.{List, [], ◌∷◌, ℕ, Option, Some, None, if◌then◌else◌}
use Rattle.std.specs.Str.{bytes_eq}
use Rattle.pl_build.specs.declared.line.Line.{Line}
use Rattle.pl_build.specs.declared.line.Line.TheVariants.{Wrong}

-- the line that a part makes; without the part the line is wrong
abbrev pub or_wrong : {A : Type 0} → Option A → (A → Line) → Line
or_wrong (Some x) f = f x
or_wrong None f = Wrong

-- what a table has for a word
abbrev pub look_up : List ℕ → List (List ℕ × ℕ) → Option ℕ
look_up text [] = None
look_up text (row ∷ rows) = if bytes_eq text row.0 then Some row.1 else look_up text rows
