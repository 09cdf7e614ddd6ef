-- What Back finds by the stored headers, the dynamic table and the rows, in pl_object's words.
use Rattle.std.specs.Prelude.{ℕ, ◌+◌, ◌*◌, ◌/◌, Bool, ◌&&◌, List, [], ◌∷◌, ◌++◌, length, map, take, drop, ◌^◌, Option, Some, None, is_some, Result, Ok, Err}
use Rattle.std.specs.List.{range_with_len}
use Rattle.pl_base.specs.Bytes.{word32, word64}
use Rattle.pl_base.specs.Windows.{Window, within}
use Rattle.pl_elf.specs.Headers.{header, segments, sections, segment_of_kind}
use Rattle.pl_elf.specs.declared.constants.TheConstants.{PT_DYNAMIC}
use Rattle.pl_elf.specs.declared.segment.Segment.{Segment}
use Rattle.pl_elf.specs.declared.section.Section.{Section}
use Rattle.pl_dyn.specs.Entries.{tags}
use Rattle.pl_dyn.specs.declared.tags.Tag.{Tag}
use Rattle.pl_dyn.specs.declared.constants.TheConstants.{DT_SYMTAB}
use Rattle.pl_object.specs.FilePart.{file_window, in_file_part}
use Rattle.pl_object.specs.Tables.{has_tag, dynamic_memory, rela_memory, jmprel_memory, relr_memory, symbols_memory, symtab_windows}
use Rattle.pl_object.specs.Relocations.{raw_width}
use Rattle.pl_relr.specs.Places.{unpacked}
use Rattle.pl_relr.specs.declared.fault.RelrFault.{RelrFault}
use Rattle.pl_move.specs.Objects.{rows_of}
use Rattle.pl_move.specs.declared.kind.RowKind.TheVariants.{PackedAddress}
use Rattle.pl_object.specs.PlaceClauses.{last_load}
use Rattle.pl_move.specs.declared.kind.RowKind.TheVariants.{SymbolValue}
use Rattle.pl_move.specs.declared.kind.RowKind.TheVariants.{RelocationPlace}
use Rattle.pl_move.specs.declared.kind.RowKind.TheVariants.{RelativeAddend}
use Rattle.pl_move.specs.declared.table.Table.{Table}
use Rattle.pl_form.specs.Back.{when, all_within, Reader, undo_in}
use Rattle.pl_form.specs.declared.parts.Spot.{Spot}
use Rattle.pl_form.specs.Loads.{spots_of}

-- the stored tables stand one after the other behind the stored header
unfoldable pub stored_segments : List ℕ → List Segment
stored_segments headers = segments headers (record (header headers) { phoff = 64 })

unfoldable pub stored_sections : List ℕ → List Section
stored_sections headers = sections headers (record (header headers) { shoff = 64 + 56 * (header headers).phnum })

-- ---- the dynamic table

abbrev pub dynamic_in : List Segment → Window
dynamic_in ss = file_window ss (dynamic_memory ss)

abbrev pub has_dynamic_table : List Segment → Bool
has_dynamic_table ss = is_some (segment_of_kind PT_DYNAMIC ss) && in_file_part ss (dynamic_memory ss)

unfoldable pub find_dynamic : List ℕ → Option Window
find_dynamic headers = let ss = stored_segments headers in when (has_dynamic_table ss) (Some (dynamic_in ss))

-- ---- tables

abbrev pub symbols_in : List Segment → List Section → List Tag → Window
symbols_in ss secs ts = file_window ss (symbols_memory ts secs)

abbrev pub rela_in : List Segment → List Tag → Window
rela_in ss ts = file_window ss (rela_memory ts)

abbrev pub jmprel_in : List Segment → List Tag → Window
jmprel_in ss ts = file_window ss (jmprel_memory ts)

abbrev pub packed_in : List Segment → List Tag → Window
packed_in ss ts = file_window ss (relr_memory ts)

abbrev pub symtab_tables : List Window → List Table
symtab_tables [] = []
symtab_tables (w ∷ ws) = rows_of SymbolValue w ∷ symtab_tables ws

abbrev pub moved_tables : List Segment → List Section → List Tag → List Table
moved_tables ss secs ts =
    rows_of SymbolValue (symbols_in ss secs ts) ∷ rows_of RelocationPlace (rela_in ss ts) ∷ rows_of RelativeAddend (rela_in ss ts)
    ∷ rows_of RelocationPlace (jmprel_in ss ts) ∷ rows_of RelativeAddend (jmprel_in ss ts) ∷ rows_of PackedAddress (packed_in ss ts) ∷ symtab_tables (symtab_windows secs)

abbrev pub has_tables : List Segment → List Section → List Tag → Bool
has_tables ss secs ts =
    has_tag DT_SYMTAB ts && in_file_part ss (symbols_memory ts secs) && in_file_part ss (rela_memory ts) && in_file_part ss (jmprel_memory ts) && in_file_part ss (relr_memory ts)

unfoldable pub find_tables : List ℕ → List ℕ → Option (List Table)
find_tables headers dynamic =
    let ss = stored_segments headers in let secs = stored_sections headers in
    when (has_tables ss secs (tags dynamic)) (Some (moved_tables ss secs (tags dynamic)))

-- ---- places: by the rows of RELA and of JMPREL, the packed words, and the symbols, where a COPY's width stands

abbrev pub row_windows : List Segment → List Section → List Tag → List Window
row_windows ss secs ts = rela_in ss ts ∷ jmprel_in ss ts ∷ packed_in ss ts ∷ symbols_in ss secs ts ∷ []

unfoldable pub find_rows : List ℕ → List ℕ → Option (List Window)
find_rows headers dynamic = Some (row_windows (stored_segments headers) (stored_sections headers) (tags dynamic))

abbrev pub raw_place : List ℕ → List ℕ → ℕ → Window
raw_place symbols table i = record { at = word64 (24 * i) table; size = raw_width symbols (word32 (24 * i + 8) table) (word32 (24 * i + 12) table) }

unfoldable pub raw_places : List ℕ → List ℕ → List Window
raw_places symbols table = map (raw_place symbols table) (range_with_len 0 (length table / 24))

-- the places that a packed table names; none where its words name no places, or more than 2^32
abbrev pub word_window : ℕ → Window
word_window address = record { at = address; size = 8 }

abbrev pub word_windows : Result (List ℕ) RelrFault → List Window
word_windows (Ok addresses) = map word_window addresses
word_windows (Err fault) = []

unfoldable pub packed_places : List ℕ → List Window
packed_places table = word_windows (unpacked table (2 ^ 32))

-- of the tables one after the other, of these sizes, and the symbols behind them
unfoldable pub all_places : ℕ → ℕ → ℕ → List ℕ → List Window
all_places rela jmprel packed rows =
    let slots = drop rela rows in let words = drop jmprel slots in let symbols = drop packed words in
    raw_places symbols (take rela rows) ++ raw_places symbols (take jmprel slots) ++ packed_places (take packed words)

abbrev pub zeros_from : Option Segment → ℕ
zeros_from None = 0
zeros_from (Some s) = s.vaddr + s.filesz

abbrev pub places_by : List Segment → List Tag → List ℕ → List Window
places_by ss ts rows = all_places (rela_in ss ts).size (jmprel_in ss ts).size (packed_in ss ts).size rows

-- where these stand, by their rows in these bytes
abbrev pub spots_in : List Segment → List Section → List Tag → List ℕ → List Spot
spots_in ss secs ts bytes = spots_of ss (zeros_from (last_load ss)) (places_by ss ts (all_within (row_windows ss secs ts) bytes))

unfoldable pub find_spots : List ℕ → List ℕ → List ℕ → Option (List Spot)
find_spots headers dynamic rows =
    let ss = stored_segments headers in
    Some (spots_of ss (zeros_from (last_load ss)) (places_by ss (tags dynamic) rows))

abbrev pub reader : Reader
reader = record { dynamic = find_dynamic; tables = find_tables; relocations = find_rows; spots = find_spots; undo = undo_in }

-- ---- the same, found in an original itself

abbrev pub ss_of : List ℕ → List Segment
ss_of o = segments o (header o)

abbrev pub secs_of : List ℕ → List Section
secs_of o = sections o (header o)

abbrev pub d_of : List ℕ → Window
d_of o = dynamic_in (ss_of o)

abbrev pub tags_of : List ℕ → List Tag
tags_of o = tags (within (d_of o) o)

abbrev pub rs_of : List ℕ → List Window
rs_of o = row_windows (ss_of o) (secs_of o) (tags_of o)

abbrev pub places_of : List ℕ → List Window
places_of o = places_by (ss_of o) (tags_of o) (all_within (rs_of o) o)

abbrev pub ps_of : List ℕ → List Spot
ps_of o = spots_of (ss_of o) (zeros_from (last_load (ss_of o))) (places_of o)
