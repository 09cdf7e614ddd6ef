-- Whether a window shares a byte with a table, by the table that ends last of those that begin before the window's end.
use Rattle.std.specs.Prelude.{◌≡◌, Bool, ◌&&◌, nat_lt, List, [], ◌∷◌, if◌then◌else◌}
use Rattle.std.specs.List.Sorted.{IsNonDecreasingBy}
use Rattle.pl_base.specs.Windows.{Window, end_of}
use Rattle.pl_object.specs.FilePart.{nothing}
use Rattle.pl_object.specs.declared.crossing.SortedTables.{SortedTables}

-- of two windows the one whose bytes end later
unfoldable pub further : Window → Window → Window
further last w = if nat_lt (end_of last) (end_of w) && nat_lt 0 w.size then w else last

-- of a window and others the one whose bytes end last
abbrev pub furthest : Window → List Window → Window
furthest last [] = last
furthest last (w ∷ ws) = furthest (further last w) ws

-- the same of each number of the others, from none on
abbrev pub furthest_windows : Window → List Window → List Window
furthest_windows last [] = last ∷ []
furthest_windows last (w ∷ ws) = last ∷ furthest_windows (further last w) ws

-- a window with bytes begins before the end of another
unfoldable pub is_met : Window → Window → Bool
is_met last w = nat_lt 0 w.size && nat_lt w.at (end_of last)

-- tables in the order of where they begin, and of each number of them the one that ends last
pub record AreSorted (t : SortedTables) : Type 0 where
  pub rising : IsNonDecreasingBy (λ w. w.at) t.tables.now
  pub ends : t.furthest.now ≡ furthest_windows nothing t.tables.now
