-- How a form is undone from its own bytes.
use Rattle.std.specs.Prelude.{ℕ, ◌+◌, ◌-◌, ◌*◌, Bool, true, false, ◌&&◌, ◌==◌, nat_le, List, [], ◌∷◌, ◌++◌, length, take, drop, replicate, Option, Some, None, Result, Ok, Err}
use Rattle.pl_base.specs.Bytes.{part}
use Rattle.pl_base.specs.Windows.{Window, within, Put, put_all, are_in}
use Rattle.pl_elf.specs.Headers.{header, section, section_offset}
use Rattle.pl_elf.specs.declared.header.Header.{Header}
use Rattle.pl_elf.specs.declared.section.Section.{Section}
use Rattle.pl_undo.specs.declared.undo.Undo.{Undo}
use Rattle.pl_undo.specs.declared.fault.UndoFault.{UndoFault}
use Rattle.pl_undo.specs.Reading as reading
use Rattle.pl_move.specs.declared.table.Table.{Table}
use Rattle.pl_move.specs.Moves.{table_windows, all_back}
use Rattle.pl_form.specs.declared.parts.Spot.{Spot}

infixl 10 ◌>>=◌
abbrev pub ◌>>=◌ : {A B : Type 0} → Option A → (A → Option B) → Option B
(Some x) >>= f = f x
None >>= f = None

abbrev pub when : {A : Type 0} → Bool → Option A → Option A
when true x = x
when false x = None

abbrev pub all_within : List Window → List ℕ → List ℕ
all_within [] bytes = []
all_within (w ∷ ws) bytes = within w bytes ++ all_within ws bytes

-- ---- the header and the two tables

abbrev pub header_window : Window
header_window = record { at = 0; size = 64 }

abbrev pub segments_window : Header → Window
segments_window h = record { at = h.phoff; size = 56 * h.phnum }

abbrev pub sections_window : Header → Window
sections_window h = record { at = h.shoff; size = 64 * h.shnum }

abbrev pub head_windows : Header → List Window
head_windows h = header_window ∷ segments_window h ∷ sections_window h ∷ []

abbrev pub headers_of : List ℕ → List ℕ
headers_of bytes = all_within (head_windows (header bytes)) bytes

-- bytes cut at windows, one after the other
abbrev pub cut_at : List Window → List ℕ → List Put
cut_at [] flat = []
cut_at (w ∷ ws) flat = record { at = w.at; bytes = take w.size flat } ∷ cut_at ws (drop w.size flat)

-- ---- places of relocations

abbrev pub spot_windows : List Spot → List Window
spot_windows [] = []
spot_windows (p ∷ ps) = record { at = p.at; size = p.size } ∷ spot_windows ps

-- the memory bytes of all places, in order
abbrev pub memory_of : List Spot → List ℕ → List ℕ
memory_of [] bytes = []
memory_of (p ∷ ps) bytes = part p.at p.size bytes ++ (replicate p.hidden 0 ++ memory_of ps bytes)

abbrev pub wanted : List Spot → ℕ
wanted [] = 0
wanted (p ∷ ps) = p.size + (p.hidden + wanted ps)

-- of bytes for all places, those that lie in the file
abbrev pub visible : List Spot → List ℕ → List Put
visible [] flat = []
visible (p ∷ ps) flat = record { at = p.at; bytes = take p.size flat } ∷ visible ps (drop p.hidden (drop p.size flat))

-- how the tables and the places are found: by the stored headers and the DYNAMIC range alone, and the places by the relocations' rows
pub record Reader : Type 0 where
  pub dynamic : List ℕ → Option Window
  pub tables : List ℕ → List ℕ → Option (List Table)
  pub relocations : List ℕ → List ℕ → Option (List Window)
  pub spots : List ℕ → List ℕ → List ℕ → Option (List Spot)
  pub undo : List ℕ → Option Undo

abbrev pub found : Result Undo UndoFault → Option Undo
found (Ok u) = Some u
found (Err fault) = None

-- what an undo section spells
abbrev pub undo_in : List ℕ → Option Undo
undo_in bytes = found (reading.undo_of bytes)

-- ---- back

abbrev pub stored_puts : Undo → Window → List Put
stored_puts u d = cut_at (head_windows (header u.headers)) u.headers ++ record { at = d.at; bytes = take d.size u.kept } ∷ []

unfoldable pub with_places : Reader → Undo → Window → List Window → List ℕ → Option (List ℕ)
with_places r u d rs bytes = do
  ps ← r.spots u.headers (take d.size u.kept) (all_within rs bytes)
  when (are_in (length bytes) (spot_windows ps) && length u.kept == d.size + wanted ps) (Some (put_all (visible ps (drop d.size u.kept)) bytes))

unfoldable pub with_tables : Reader → Undo → Window → List Table → List ℕ → Option (List ℕ)
with_tables r u d ts front = do
  rs ← r.relocations u.headers (take d.size u.kept)
  when (are_in (length front) (head_windows (header u.headers) ++ d ∷ []) && are_in (length front) (table_windows ts)) (with_places r u d rs (all_back u.slot ts (put_all (stored_puts u d) front)))

-- the original, from the bytes that stand where its bytes stood
unfoldable pub from_front : Reader → Undo → List ℕ → Option (List ℕ)
from_front r u front = do
  d ← r.dynamic u.headers
  ts ← r.tables u.headers (take d.size u.kept)
  with_tables r u d ts front

-- those bytes in the file: all before cut, and what follows the inserted bytes
abbrev pub front_of : Undo → List ℕ → List ℕ
front_of u file = take u.cut file ++ part (u.cut + u.shift) (u.length - u.cut) file

abbrev pub section_part : Section → List ℕ → List ℕ
section_part s file = part s.offset s.size file

-- the section two before the end of the section header table
abbrev pub undo_section : List ℕ → Section
undo_section file = section file (header file) ((header file).shnum - 2)

-- there is such a section, and it lies in the file
abbrev pub has_undo_section : List ℕ → Bool
has_undo_section file =
    nat_le 2 (header file).shnum
    && are_in (length file) (record { at = section_offset (header file) ((header file).shnum - 2); size = 64 } ∷ record { at = (undo_section file).offset; size = (undo_section file).size } ∷ [])

-- the original that an undo section brings back
unfoldable pub restored : Reader → Undo → List ℕ → Option (List ℕ)
restored r u file = when (nat_le u.cut u.length && nat_le (u.length + u.shift) (length file)) (from_front r u (front_of u file))

-- what a file's undo section spells
abbrev pub find_undo : List ℕ → Option Undo
find_undo file = when (has_undo_section file) (undo_in (section_part (undo_section file) file))

unfoldable pub back : Reader → List ℕ → Option (List ℕ)
back r file = do
  u ← when (has_undo_section file) (r.undo (section_part (undo_section file) file))
  restored r u file

-- ---- what an original's undo section says

abbrev pub undo_value : ℕ → ℕ → ℕ → ℕ → List ℕ → List ℕ → Option (List ℕ) → Undo
undo_value slot cut shift size headers kept digest = record { slot = slot; cut = cut; shift = shift; length = size; headers = headers; kept = kept; digest = digest }

abbrev pub undo_of : ℕ → ℕ → ℕ → Window → List Spot → List ℕ → Option (List ℕ) → Undo
undo_of slot cut shift d ps o digest = undo_value slot cut shift (length o) (headers_of o) (within d o ++ memory_of ps o) digest

-- bytes inserted at a place
abbrev pub inserted : ℕ → List ℕ → List ℕ → List ℕ
inserted cut more bytes = take cut bytes ++ more ++ drop cut bytes
