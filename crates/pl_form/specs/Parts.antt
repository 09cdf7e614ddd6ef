-- The form of a library and of a program, part by part.
use Rattle.std.specs.Prelude.{ℕ, zero, suc, ◌+◌, ◌-◌, ◌*◌, ◌/◌, Bool, not, ◌&&◌, ◌==◌, nat_le, nat_lt, List, [], ◌∷◌, ◌++◌, length, map, take, drop, replicate, bit_and, if◌then◌else◌}
use Rattle.std.specs.List.{concat}
use Rattle.pl_base.specs.Bytes.{put, word64, bytes64}
use Rattle.pl_base.specs.Sums.{plus, round_up}
use Rattle.pl_base.specs.Windows.{Window, within, Put, put_all, ◌⊕◌}
use Rattle.pl_elf.specs.Headers.{header, segments, sections}
use Rattle.pl_elf.specs.Clauses.{names}
use Rattle.pl_elf.specs.Written.{header_bytes, segment_bytes, section_header_bytes}
use Rattle.pl_elf.specs.declared.header.Header.{Header}
use Rattle.pl_elf.specs.declared.segment.Segment.{Segment}
use Rattle.pl_elf.specs.declared.section.Section.{Section}
use Rattle.pl_form.specs.declared.section_names.TheConstants.{LIBSTR_NAME, LIBLIST_NAME, CONFLICT_NAME, UNDO_NAME, NAMES_NAME}
use Rattle.pl_move.specs.declared.kind.RowKind.TheVariants.{TagValue}
use Rattle.pl_move.specs.declared.table.Table.{Table}
use Rattle.pl_elf.specs.Headers.{is_moved_kind}
use Rattle.pl_move.specs.Moves.{rows, row_moved, all_moved}
use Rattle.pl_form.specs.declared.parts.Extension.{Extension}
use Rattle.pl_form.specs.declared.parts.Listed.{Listed}
use Rattle.pl_form.specs.declared.parts.FormPlan.{FormPlan}
use Rattle.pl_form.specs.declared.parts.Spot.{Spot}
use Rattle.pl_form.specs.Back.{visible, inserted}

-- ---- parts, each at the next multiple of 8

unfoldable pub joined : List ℕ → List (List ℕ) → List ℕ
joined front [] = front
joined front (next ∷ parts) = joined (front ⊕ next) parts

-- how long parts of these lengths are behind a front of a length, and where a part behind them begins
abbrev pub up : ℕ → ℕ
up size = (size + 7) / 8 * 8

unfoldable pub joined_size : ℕ → List (List ℕ) → ℕ
joined_size front [] = front
joined_size front (next ∷ parts) = joined_size (up front + length next) parts

-- ---- what is made of an original

pub record Original : Type 0 where
  pub bytes : List ℕ
  pub dynamic : Window
  pub tables : List Table
  pub spots : List Spot
  -- how many entries the dynamic table has before the first of tag 0
  pub tags : ℕ

-- ---- the last three parts

abbrev pub plain : ℕ → ℕ → ℕ → ℕ → Section
plain name kind at size = record { name = name; kind = kind; flags = 0; addr = 0; offset = at; size = size; link = 0; info = 0; addralign = 8; entsize = 0 }

abbrev pub old_names : List ℕ → List ℕ
old_names o = names o (header o)

-- the names of all sections: the original's, then the new ones
abbrev pub all_names : List ℕ → FormPlan → List ℕ
all_names old p = old ++ (p.names ++ (UNDO_NAME ++ NAMES_NAME))

abbrev pub names_part : FormPlan → List ℕ → List ℕ
names_part p o = all_names (old_names o) p

-- where the undo section, the names and the table begin
abbrev pub undo_at : FormPlan → List ℕ → ℕ
undo_at p o = up (joined_size (length o + length p.more) p.parts)

abbrev pub names_at : FormPlan → List ℕ → ℕ → ℕ
names_at p o undo = up (undo_at p o + undo)

abbrev pub table_at : FormPlan → List ℕ → ℕ → ℕ
table_at p o undo = up (names_at p o undo + length (names_part p o))

abbrev pub undo_row : FormPlan → List ℕ → ℕ → Section
undo_row p o undo = plain (length (old_names o) + length p.names) 1 (undo_at p o) undo

abbrev pub names_row : FormPlan → List ℕ → ℕ → Section
names_row p o undo = plain (length (old_names o) + length p.names + 18) 3 (names_at p o undo) (length (names_part p o))

abbrev pub table_rows : FormPlan → List ℕ → ℕ → List Section
table_rows p o undo = p.sections ++ undo_row p o undo ∷ names_row p o undo ∷ []

abbrev pub table_part : FormPlan → List ℕ → ℕ → List ℕ
table_part p o undo = concat (map section_header_bytes (table_rows p o undo))

-- ---- the bytes of the original, changed

abbrev pub moved_entry : ℕ → ℕ → ℕ
moved_entry slot entry = if entry == 0 then 0 else plus entry slot

unfoldable pub new_header : FormPlan → List ℕ → ℕ → Header
new_header p o undo = record (header o) {
  entry = moved_entry p.slot (header o).entry;
  shoff = table_at p o undo;
  shnum = length p.sections + 2;
  shstrndx = length p.sections + 1;
}

-- the tables moved, and the bytes at the places, as far as these are in the file
unfoldable pub moved_part : FormPlan → Original → List ℕ → List ℕ
moved_part p o flat = put_all (visible o.spots flat) (all_moved p.slot o.tables o.bytes)

-- with the new dynamic table, and with the new program headers
abbrev pub under_segments : FormPlan → Original → List ℕ → List ℕ
under_segments p o flat = put o.dynamic.at p.dynamic (moved_part p o flat)

abbrev pub under_header : FormPlan → Original → List ℕ → List ℕ
under_header p o flat = put (header o.bytes).phoff (concat (map segment_bytes p.segments)) (under_segments p o flat)

-- and with the new header
unfoldable pub front_part : FormPlan → Original → List ℕ → ℕ → List ℕ
front_part p o flat undo = put 0 (header_bytes (new_header p o.bytes undo)) (under_header p o flat)

-- ---- the whole, with the bytes of the undo section

unfoldable pub form : FormPlan → Original → List ℕ → List ℕ → List ℕ
form p o flat undo =
    joined (inserted p.cut p.more (front_part p o flat (length undo)))
    (p.parts ++ undo ∷ names_part p o.bytes ∷ table_part p o.bytes (length undo) ∷ [])

-- ---- both kinds

abbrev pub entry_bytes : ℕ → ℕ → List ℕ
entry_bytes tag value = bytes64 tag ++ bytes64 value

-- the first entries of tag 0 replaced
unfoldable pub with_entries : Original → List ℕ → List ℕ → List ℕ
with_entries o entries table = put (16 * o.tags) entries table

abbrev pub tags_moved : ℕ → Original → List ℕ
tags_moved slot o = rows 16 (row_moved slot TagValue) o.tags (within o.dynamic o.bytes)

abbrev pub with_rows : ℕ → ℕ → Section → Section
with_rows link entsize s = record s { link = link; entsize = entsize }

-- ---- a library

abbrev pub moved_segment : ℕ → Segment → Segment
moved_segment slot s = if is_moved_kind s.kind then record s { vaddr = plus s.vaddr slot; paddr = plus s.paddr slot } else s

abbrev pub is_allocated : Section → Bool
is_allocated s = not (bit_and s.flags 2 == 0)

abbrev pub moved_section : ℕ → Section → Section
moved_section slot s = if is_allocated s then record s { addr = plus s.addr slot } else s

-- the stamp and the checksum, in place of the first two entries of tag 0
abbrev pub library_entries : ℕ → ℕ → List ℕ
library_entries stamp checksum = entry_bytes 0x6ffffdf5 stamp ++ entry_bytes 0x6ffffdf8 checksum

unfoldable pub library_dynamic : Original → ℕ → ℕ → ℕ → List ℕ
library_dynamic o slot stamp checksum = with_entries o (library_entries stamp checksum) (tags_moved slot o)

-- the sections of a list, behind a file and sections of so many bytes and rows, and names of so many bytes
abbrev pub list_sections : Listed → ℕ → ℕ → ℕ → List Section
list_sections l file rows names =
    plain names 3 (up file) (length l.strings)
    ∷ with_rows rows 20 (plain (names + 12) 0x6ffffff7 (up (up file + length l.strings)) (length l.rows)) ∷ []

unfoldable pub library_sections : Original → ℕ → Listed → List Section
library_sections o slot l =
    let old = map (moved_section slot) (sections o.bytes (header o.bytes)) in
    old ++ list_sections l (length o.bytes) (length old) (length (old_names o.bytes))

unfoldable pub library_plan : Original → ℕ → ℕ → ℕ → Listed → FormPlan
library_plan o slot stamp checksum l = record {
  slot = slot;
  cut = length o.bytes;
  more = [];
  segments = map (moved_segment slot) (segments o.bytes (header o.bytes));
  dynamic = library_dynamic o slot stamp checksum;
  parts = l.strings ∷ l.rows ∷ [];
  sections = library_sections o slot l;
  names = LIBSTR_NAME ++ LIBLIST_NAME;
}

-- ---- a program

-- of bytes for all places, those that lie in the zeros of the last PT_LOAD
abbrev pub hidden : List Spot → List ℕ → List Put
hidden [] flat = []
hidden (p ∷ ps) flat = record { at = p.behind; bytes = take p.hidden (drop p.size flat) } ∷ hidden ps (drop p.hidden (drop p.size flat))

-- the zeros up to memsz, with the bytes of the places there
unfoldable pub zeros_part : Segment → List Spot → List ℕ → List ℕ
zeros_part last ps flat = put_all (hidden ps flat) (replicate (last.memsz - last.filesz) 0)

abbrev pub extension_at : Segment → ℕ
extension_at last = round_up (last.vaddr + last.memsz) 16

-- from E on
abbrev pub lists_part : Extension → List ℕ
lists_part e = (e.strings ⊕ e.rows) ⊕ e.conflicts

-- what belongs to the last PT_LOAD from cut on, and with the zeros behind it
unfoldable pub extension : Segment → List Spot → List ℕ → Extension → List ℕ
extension last ps flat e = zeros_part last ps flat ++ (replicate (extension_at last - (last.vaddr + last.memsz)) 0 ++ lists_part e)

unfoldable pub whole_extension : List ℕ → List ℕ
whole_extension bytes = bytes ++ replicate (round_up (length bytes) 16 - length bytes) 0

-- where the list and the conflicts begin, in memory
abbrev pub rows_at : Segment → Extension → ℕ
rows_at last e = extension_at last + up (length e.strings)

abbrev pub conflicts_at : Segment → Extension → ℕ
conflicts_at last e = extension_at last + up (up (length e.strings) + length e.rows)

-- a segment other than the last PT_LOAD, with file bytes from cut on
abbrev pub shifted_segment : ℕ → ℕ → Segment → Segment
shifted_segment cut shift s = if nat_lt 0 s.filesz && nat_le cut s.offset then record s { offset = s.offset + shift } else s

abbrev pub extended_segment : ℕ → Segment → Segment
extended_segment more s = record s { filesz = s.filesz + more; memsz = s.filesz + more }

-- all of them: the one of this index is the last PT_LOAD
abbrev pub program_segments : ℕ → ℕ → ℕ → ℕ → List Segment → List Segment
program_segments cut shift more index [] = []
program_segments cut shift more zero (s ∷ ss) = extended_segment more s ∷ map (shifted_segment cut shift) ss
program_segments cut shift more (suc index) (s ∷ ss) = shifted_segment cut shift s ∷ program_segments cut shift more index ss

-- zeros in memory that the form has in the file
abbrev pub is_grown : Segment → Section → Bool
is_grown last s =
    s.kind == 8 && nat_lt 0 s.size && is_allocated s && bit_and s.flags 0x400 == 0
    && nat_le (last.vaddr + last.filesz) s.addr && nat_le (s.addr + s.size) (last.vaddr + last.memsz)

abbrev pub program_section : ℕ → ℕ → Segment → Section → Section
program_section cut shift last s =
    if is_grown last s then record s { kind = 1; offset = last.offset + (s.addr - last.vaddr) }
    else (if not (s.kind == 8) && nat_le cut s.offset then record s { offset = s.offset + shift } else s)

-- a new section that the last PT_LOAD loads
abbrev pub loaded_section : Segment → ℕ → ℕ → ℕ → ℕ → Section
loaded_section last name kind address size = record (plain name kind (last.offset + (address - last.vaddr)) size) { flags = 2; addr = address }

unfoldable pub program_sections : Original → Segment → ℕ → ℕ → Extension → List Section
program_sections o last cut shift e =
    let old = map (program_section cut shift last) (sections o.bytes (header o.bytes)) in
    let name = length (old_names o.bytes) in
    old ++ loaded_section last name 3 (extension_at last) (length e.strings)
    ∷ with_rows (length old) 20 (loaded_section last (name + 12) 0x6ffffff7 (rows_at last e) (length e.rows))
    ∷ with_rows 0 24 (loaded_section last (name + 25) 4 (conflicts_at last e) (length e.conflicts)) ∷ []

-- a tag's value replaced
abbrev pub with_tag : ℕ → ℕ → List ℕ → List ℕ
with_tag number new row = if word64 0 row == number then entry_bytes number new else row

unfoldable pub program_dynamic : Original → Segment → Extension → List ℕ
program_dynamic o last e =
    with_entries o (entry_bytes 0x6ffffef9 (rows_at last e) ++ entry_bytes 0x6ffffdf7 (length e.rows) ++ entry_bytes 0x6ffffef8 (conflicts_at last e) ++ entry_bytes 0x6ffffdf6 (length e.conflicts))
    (rows 16 (λ row. with_tag 10 (length e.strings) (with_tag 5 (extension_at last) row)) o.tags (within o.dynamic o.bytes))

-- the last PT_LOAD is the segment of this index
unfoldable pub program_plan : Original → ℕ → Segment → List ℕ → Extension → FormPlan
program_plan o index last flat e =
    let cut = last.offset + last.filesz in
    let block = extension last o.spots flat e in
    let more = whole_extension block in
    record {
      slot = 0;
      cut = cut;
      more = more;
      segments = program_segments cut (length more) (length block) index (segments o.bytes (header o.bytes));
      dynamic = program_dynamic o last e;
      parts = [];
      sections = program_sections o last cut (length more) e;
      names = LIBSTR_NAME ++ (LIBLIST_NAME ++ CONFLICT_NAME);
    }
