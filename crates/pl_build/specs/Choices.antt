-- Rows of a table that may be there.
use Rattle.std.specs.Prelude.{Bool, List, map, filter}

-- the rows that are there, in their order
unfoldable pub chosen : {T : Type 0} → List (Bool × T) → List T
chosen choices = map (λ choice. choice.1) (filter (λ choice. choice.0) choices)
