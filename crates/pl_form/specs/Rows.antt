-- The bytes of the tables by whose rows places are found, and where these places stand.
use Rattle.std.specs.Prelude.{◌≡◌, ℕ, List, [], ◌∷◌, ◌++◌, take, drop}
use Rattle.pl_base.specs.Windows.{Window}
use Rattle.pl_form.specs.Found.{raw_places, packed_places}
use Rattle.pl_form.specs.Loads.{spots_of}
use Rattle.pl_form.specs.declared.found.Memory.{Memory}
use Rattle.pl_form.specs.declared.found.RowBytes.{RowBytes}
use Rattle.pl_form.specs.declared.parts.Spot.{Spot}

-- the bytes of DT_RELA's rows, of DT_JMPREL's, of the packed words and of the symbols
abbrev pub tables_of : RowBytes → List (List ℕ)
tables_of r = r.rela.now ∷ r.jmprel.now ∷ r.packed.now ∷ r.symbols.now ∷ []

-- bytes cut into parts of the sizes of windows, one after the other; the last part is all the rest
abbrev pub cut_by : List Window → List ℕ → List (List ℕ)
cut_by [] bytes = []
cut_by (w ∷ []) bytes = bytes ∷ []
cut_by (w ∷ v ∷ ws) bytes = take w.size bytes ∷ cut_by (v ∷ ws) (drop w.size bytes)

-- the tables are these parts
abbrev pub IsCut : List Window → List ℕ → RowBytes → Type 0
IsCut ws bytes r = tables_of r ≡ cut_by ws bytes

-- the places that the rows of such tables name
abbrev pub places_in : RowBytes → List Window
places_in r = raw_places r.symbols.now r.rela.now ++ raw_places r.symbols.now r.jmprel.now ++ packed_places r.packed.now

-- where places stand, by the segments and the address at which the zeros of the last PT_LOAD begin
abbrev pub spots_in_memory : Memory → List Window → List Spot
spots_in_memory m places = spots_of m.segments.now m.zeros places
