-- What the segments of a form load at the addresses of the original's.
use Rattle.std.specs.Prelude.{ℕ, ◌+◌, ◌-◌, Bool, ◌==◌, if◌then◌else◌, List, [], ◌∷◌, map, take, drop}
use Rattle.std.specs.List.{list_any}
use Rattle.pl_base.specs.Bytes.{part}
use Rattle.pl_base.specs.Windows.{Window, holds}
use Rattle.pl_base.specs.Memory.{Piece}
use Rattle.pl_elf.specs.Headers.{is_load}
use Rattle.pl_elf.specs.declared.segment.Segment.{Segment}
use Rattle.pl_object.specs.FilePart.{file_window}
use Rattle.pl_form.specs.declared.parts.Spot.{Spot}

-- a segment as a file bears it, at the original's address and size
abbrev pub stands : ℕ → List ℕ → Segment → Segment → Piece
stands place file s borne = record { start = place + s.vaddr; size = s.memsz; bytes = part borne.offset borne.filesz file }

-- ---- places

-- a place that begins in file bytes or in the start of the last PT_LOAD, which begin at an address
unfoldable pub spot_of : List Segment → ℕ → Window → Spot
spot_of ss start place =
    let f = file_window ss place in
    record { at = f.at; size = f.size; hidden = place.size - f.size; behind = if place.size == f.size then 0 else place.at - start }

abbrev pub spots_of : List Segment → ℕ → List Window → List Spot
spots_of ss start places = map (spot_of ss start) places

abbrev pub is_under : List Window → ℕ → Bool
is_under places address = list_any (holds address) places

-- the bytes for each place
abbrev pub fills : List Spot → List ℕ → List (List ℕ)
fills [] flat = []
fills (p ∷ ps) flat = take (p.size + p.hidden) flat ∷ fills ps (drop p.hidden (drop p.size flat))

-- the bytes of places in the zeros of the last PT_LOAD, by their number there
abbrev pub hidden_windows : List Spot → List Window
hidden_windows [] = []
hidden_windows (p ∷ ps) = record { at = p.behind; size = p.hidden } ∷ hidden_windows ps

-- the pieces of the PT_LOADs of an original, as a file bears their segments
unfoldable pub pieces_of : ℕ → List ℕ → List Segment → List Segment → List Piece
pieces_of place file [] borne = []
pieces_of place file (s ∷ ss) [] = []
pieces_of place file (s ∷ ss) (b ∷ bs) = if is_load s then stands place file s b ∷ pieces_of place file ss bs else pieces_of place file ss bs
