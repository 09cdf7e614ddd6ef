-- What an undo section's headers are.
use Rattle.std.specs.Prelude.{◌≡◌, ◌<◌, ◌≤◌, ◌^◌, ℕ, ◌+◌, ◌-◌, Bool, ◌&&◌, ◌==◌, nat_le, List, ◌∷◌, [], ◌++◌, length, take, drop, Option, Some, None}
use Rattle.pl_base.specs.Windows.{Window, are_in, put_all}
use Rattle.pl_dyn.specs.Entries.{tags}
use Rattle.pl_dyn.specs.declared.tags.Tag.{Tag}
use Rattle.pl_elf.specs.Headers.{header, section_offset, HasSegments, HasSections}
use Rattle.pl_elf.specs.declared.header.Header.{Header}
use Rattle.pl_move.specs.Moves.{table_windows, all_back}
use Rattle.pl_move.specs.declared.table.Table.{Table}
use Rattle.pl_form.specs.Back.{when, all_within, head_windows, spot_windows, stored_puts, visible, wanted}
use Rattle.pl_form.specs.Found.{stored_segments, stored_sections, dynamic_in, has_dynamic_table, has_tables, moved_tables, row_windows, places_by, zeros_from}
use Rattle.pl_form.specs.Loads.{spots_of}
use Rattle.pl_form.specs.declared.parts.Spot.{Spot}
use Rattle.pl_object.specs.PlaceClauses.{last_load}
use Rattle.pl_undo.specs.Section.{headers_size}
use Rattle.pl_undo.specs.declared.undo.Undo.{Undo}
use Rattle.pl_form.specs.declared.back.StoredHeaders.{StoredHeaders}

-- the header, the tables and the row of the section of section names lie in the file
pub record LieIn (bytes : List ℕ) : Type 0 where
  pub long : 64 ≤ length bytes
  pub segments : HasSegments bytes (header bytes)
  pub sections : HasSections bytes (header bytes)
  pub names : section_offset (header bytes) (header bytes).shstrndx + 64 ≤ length bytes

-- where the section header of the undo section stands
abbrev pub undo_header_window : Header → Window
undo_header_window h = record { at = section_offset h (h.shnum - 2); size = 64 }

abbrev pub stored_headers : List ℕ → StoredHeaders
stored_headers bytes = record { header = header bytes; segments = stored_segments bytes; sections = stored_sections bytes }

-- the headers are as long as the header among them says, and the kept bytes are those of a file
pub record IsWhole (u : Undo) : Type 0 where
  pub headers : length u.headers ≡ headers_size (header u.headers)
  pub kept : length u.kept < 2 ^ 32

abbrev pub WholeIfAny : Option Undo → Type 0
WholeIfAny None = Unit {0}
WholeIfAny (Some u) = IsWhole u

-- places lie in so many bytes, and the kept bytes are those of the dynamic table and of all places
abbrev pub fits_places : ℕ → Undo → ℕ → List Spot → Bool
fits_places size u dynamic ps = are_in size (spot_windows ps) && length u.kept == dynamic + wanted ps

-- the bytes at the places put back, where all of them and the kept bytes fit
unfoldable pub kept_back : Undo → ℕ → List Spot → List ℕ → Option (List ℕ)
kept_back u dynamic ps bytes = when (fits_places (length bytes) u dynamic ps) (Some (put_all (visible ps (drop dynamic u.kept)) bytes))

-- by the rows of the relocations
unfoldable pub places_back : Undo → StoredHeaders → List Tag → List ℕ → Option (List ℕ)
places_back u s ts bytes =
    let places = places_by s.segments ts (all_within (row_windows s.segments s.sections ts) bytes) in
    kept_back u (dynamic_in s.segments).size (spots_of s.segments (zeros_from (last_load s.segments)) places) bytes

-- the header, the tables and the dynamic table lie in so many bytes, and the rows that move do
abbrev pub fits_tables : ℕ → Header → Window → List Table → Bool
fits_tables size h d moved = are_in size (head_windows h ++ d ∷ []) && are_in size (table_windows moved)

-- the tables moved back, where all of them fit
unfoldable pub tables_back : Undo → StoredHeaders → List Tag → List ℕ → Option (List ℕ)
tables_back u s ts front =
    let moved = moved_tables s.segments s.sections ts in
    let d = dynamic_in s.segments in
    when (fits_tables (length front) s.header d moved) (places_back u s ts (all_back u.slot moved (put_all (stored_puts u d) front)))

-- there is a dynamic table, and each table whose words move is in the file part
abbrev pub has_all_tables : StoredHeaders → List Tag → Bool
has_all_tables s ts = has_dynamic_table s.segments && has_tables s.segments s.sections ts

-- the original, from the bytes that stand where its bytes stood
unfoldable pub original_by : Undo → StoredHeaders → List ℕ → Option (List ℕ)
original_by u s front =
    let ts = tags (take (dynamic_in s.segments).size u.kept) in
    when (has_all_tables s ts) (tables_back u s ts front)

-- a file of so many bytes has all those that stood in the original
abbrev pub fits_file : ℕ → Undo → Bool
fits_file size u = nat_le u.cut u.length && nat_le (u.length + u.shift) size
