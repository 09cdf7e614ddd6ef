-- Which members of a walk each member needs, all by their numbers in the walk (System V gABI, chapter 5, "Shared Object Dependencies", DT_NEEDED).
use Rattle.std.specs.Prelude.{ℕ, Bool, ◌==◌, List, [], map, Option, slice_index_or, position}
use Rattle.std.specs.List.{list_any, filter_map}
use Rattle.std.specs.Str.{bytes_eq}
use Rattle.pl_scope.specs.Walk.{Walked}
use Rattle.pl_scope.specs.Members.{names}

-- the number of a name
abbrev pub number : List (List ℕ) → List ℕ → Option ℕ
number names name = position (bytes_eq name) names

-- for each member the numbers of the members that it needs, in the order of its needed names
unfoldable pub graph : Walked → List (List ℕ)
graph walked = map (λ member. filter_map (number (names walked)) member.1.needed) walked

-- the numbers that one member needs
abbrev pub needs : List (List ℕ) → ℕ → List ℕ
needs graph m = slice_index_or graph m []

-- a number is among numbers
abbrev pub has_number : List ℕ → ℕ → Bool
has_number numbers m = list_any (λ k. k == m) numbers
