-- The parts of a program's form as its code makes them: sums modulo 2^64, which do not wrap, and segments taken apart at the last PT_LOAD.
use Rattle.std.specs.Prelude.{◌≡◌, ◌≤◌, ◌<◌, ◌+◌, ◌-◌, ◌*◌, ◌^◌, ◌++◌, ◌∷◌, [], ◌&&◌, ◌==◌, not, false, nat_lt, nat_le, ℕ, List, length, map, take, drop, slice_index_or, if◌then◌else◌}
use Rattle.std.specs.List.{list_any}
use Rattle.pl_base.specs.Bytes.{put}
use Rattle.pl_base.specs.Sums.{plus}
use Rattle.pl_base.specs.Windows.{AllIn, IsIn}
use Rattle.pl_elf.specs.Clauses.{section_passes, segment_passes}
use Rattle.pl_elf.specs.Headers.{header, section_offset}
use Rattle.pl_elf.specs.declared.section.Section.{Section}
use Rattle.pl_elf.specs.declared.segment.Segment.{Segment}
use Rattle.pl_move.specs.Moves.{rows}
use Rattle.pl_object.specs.declared.object.Object.{Object}
use Rattle.pl_form.specs.Loads.{hidden_windows}
use Rattle.pl_form.specs.Parts.{is_grown, extended_segment, loaded_section, with_rows, with_tag, extension_at, rows_at, conflicts_at, entry_bytes}
use Rattle.pl_form.specs.declared.parts.Extension.{Extension}
use Rattle.pl_form.specs.declared.layout.Layout.{Layout}
use Rattle.pl_form.specs.declared.parts.Spot.{Spot}
use Rattle.pl_form.specs.declared.program.Last.{Last}
use Rattle.pl_form.specs.declared.program.Shift.{Shift}

-- a segment in a file of fewer than 2^32 bytes and in the addresses of a program, with at most 16 MiB of zeros
pub record IsShort (last : Segment) : Type 0 where
  pub file : last.offset + last.filesz < 2 ^ 32
  pub memory : last.vaddr + last.memsz ≤ 2 ^ 47
  pub bytes : last.filesz ≤ last.memsz
  pub zeros : last.memsz - last.filesz ≤ 2 ^ 24

-- lists of at most 1 GiB
abbrev pub AreShort : Extension → Type 0
AreShort e = length e.strings + (length e.rows + length e.conflicts) ≤ 2 ^ 30

-- the bytes that places have behind the file lie in the zeros of the last PT_LOAD
abbrev pub LieInZeros : Segment → List Spot → Type 0
LieInZeros last ps = AllIn (last.memsz - last.filesz) (hidden_windows ps)

-- the section of section names has a row in the file
pub record HasNames (bytes : List ℕ) : Type 0 where
  pub long : 64 ≤ length bytes
  pub row : section_offset (header bytes) (header bytes).shstrndx + 64 ≤ length bytes

-- ---- segments and sections

abbrev pub segment_shifted_by : Shift → Segment → Segment
segment_shifted_by shift s = if nat_lt 0 s.filesz && nat_le shift.cut s.offset then record s { offset = plus s.offset shift.size } else s

abbrev pub split_segments : Shift → ℕ → Last → List Segment → List Segment
split_segments shift more last ss =
    map (segment_shifted_by shift) (take last.index ss) ++ extended_segment more last.segment ∷ map (segment_shifted_by shift) (drop (last.index + 1) ss)

abbrev pub section_shifted_by : Shift → Segment → Section → Section
section_shifted_by shift last s =
    if is_grown last s then record s { kind = 1; offset = last.offset + (s.addr - last.vaddr) }
    else (if not (s.kind == 8) && nat_le shift.cut s.offset then record s { offset = plus s.offset shift.size } else s)

abbrev pub new_sections : Segment → Extension → ℕ → ℕ → List Section
new_sections last e rows names =
    loaded_section last names 3 (extension_at last) (length e.strings)
    ∷ with_rows rows 20 (loaded_section last (names + 12) 0x6ffffff7 (rows_at last e) (length e.rows))
    ∷ with_rows 0 24 (loaded_section last (names + 25) 4 (conflicts_at last e) (length e.conflicts)) ∷ []

-- behind names of so many bytes
abbrev pub all_sections : ℕ → List Section → Segment → Shift → Extension → List Section
all_sections names old last shift e = map (section_shifted_by shift last) old ++ new_sections last e (length old) names

-- ---- the dynamic table

abbrev pub with_strings : ℕ → ℕ → List ℕ → List ℕ
with_strings address size row = with_tag 10 size (with_tag 5 address row)

abbrev pub program_entries : Segment → Extension → List ℕ
program_entries last e =
    entry_bytes 0x6ffffef9 (rows_at last e) ++ entry_bytes 0x6ffffdf7 (length e.rows)
    ++ entry_bytes 0x6ffffef8 (conflicts_at last e) ++ entry_bytes 0x6ffffdf6 (length e.conflicts)

abbrev pub program_table : Segment → Extension → ℕ → List ℕ → List ℕ
program_table last e tags table =
    put (16 * tags) (program_entries last e) (rows 16 (with_strings (extension_at last) (length e.strings)) tags table)

-- ---- what a plan asks of a program

pub record IsExtended (bytes : List ℕ) (x : Object) (l : Layout) (last : Last) : Type 0 where
  pub short : IsShort last.segment
  pub index : last.index < length x.segments
  pub is : (d : Segment) → slice_index_or x.segments last.index d ≡ last.segment
  -- the file bytes of segments and sections lie in the file
  pub files : list_any (segment_passes bytes false) x.segments ≡ false
  pub sections : list_any (section_passes bytes) x.sections ≡ false
  pub rows : length x.sections < 2 ^ 16
  pub names : HasNames bytes
  pub dynamic : IsIn (length bytes) l.dynamic
  pub spare : 16 * l.tags + 64 ≤ l.dynamic.size
  pub hidden : LieInZeros last.segment l.spots
