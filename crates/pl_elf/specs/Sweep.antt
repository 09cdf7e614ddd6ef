-- Whether two of the windows share a byte, by one walk over windows in the order of where they begin.
use Rattle.std.specs.Prelude.{Bool, false, ◌||◌, ◌==◌, List, [], ◌∷◌, if◌then◌else◌}
use Rattle.pl_base.specs.Windows.{Window, share}

-- the last window with bytes
abbrev pub later : Window → Window → Window
later last w = if w.size == 0 then last else w

-- a window shares a byte with the last one before it that has some
unfoldable pub sweep : Window → List Window → Bool
sweep last [] = false
sweep last (w ∷ ws) = share last w || sweep (later last w) ws
