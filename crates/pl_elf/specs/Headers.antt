-- The header, the segments and the sections of a file, as they stand in its bytes (System V gABI, chapters 4 and 5, ELF-64, little-endian).
use Rattle.std.specs.Prelude.{ℕ, ◌+◌, ◌*◌, ◌≤◌, Bool, ◌==◌, List, length, map, count_by, Option}
use Rattle.std.specs.List.{range_with_len, filter, find, list_any}
use Rattle.pl_base.specs.Bytes.{part, word16, word32, word64}
use Rattle.pl_elf.specs.declared.constants.TheConstants.{EI_NIDENT, SEGMENT_SIZE, SECTION_SIZE, PT_LOAD, PT_DYNAMIC, MOVED_SEGMENTS}
use Rattle.pl_elf.specs.declared.header.Header.{Header}
use Rattle.pl_elf.specs.declared.segment.Segment.{Segment}
use Rattle.pl_elf.specs.declared.section.Section.{Section}

unfoldable pub header : List ℕ → Header
header bytes = record {
  ident = part 0 EI_NIDENT bytes;
  kind = word16 16 bytes;
  machine = word16 18 bytes;
  version = word32 20 bytes;
  entry = word64 24 bytes;
  phoff = word64 32 bytes;
  shoff = word64 40 bytes;
  flags = word32 48 bytes;
  ehsize = word16 52 bytes;
  phentsize = word16 54 bytes;
  phnum = word16 56 bytes;
  shentsize = word16 58 bytes;
  shnum = word16 60 bytes;
  shstrndx = word16 62 bytes;
}

-- the segment whose program header begins at an offset
unfoldable pub segment_at : List ℕ → ℕ → Segment
segment_at bytes at = record {
  kind = word32 at bytes;
  flags = word32 (at + 4) bytes;
  offset = word64 (at + 8) bytes;
  vaddr = word64 (at + 16) bytes;
  paddr = word64 (at + 24) bytes;
  filesz = word64 (at + 32) bytes;
  memsz = word64 (at + 40) bytes;
  align = word64 (at + 48) bytes;
}

-- the section whose section header begins at an offset
unfoldable pub section_at : List ℕ → ℕ → Section
section_at bytes at = record {
  name = word32 at bytes;
  kind = word32 (at + 4) bytes;
  flags = word64 (at + 8) bytes;
  addr = word64 (at + 16) bytes;
  offset = word64 (at + 24) bytes;
  size = word64 (at + 32) bytes;
  link = word32 (at + 40) bytes;
  info = word32 (at + 44) bytes;
  addralign = word64 (at + 48) bytes;
  entsize = word64 (at + 56) bytes;
}

-- where the program header and the section header of an index begin
abbrev pub segment_offset : Header → ℕ → ℕ
segment_offset h index = h.phoff + SEGMENT_SIZE * index

abbrev pub section_offset : Header → ℕ → ℕ
section_offset h index = h.shoff + SECTION_SIZE * index

abbrev pub segment : List ℕ → Header → ℕ → Segment
segment bytes h index = segment_at bytes (segment_offset h index)

abbrev pub section : List ℕ → Header → ℕ → Section
section bytes h index = section_at bytes (section_offset h index)

-- all of them, in the order of the tables
unfoldable pub segments : List ℕ → Header → List Segment
segments bytes h = map (segment bytes h) (range_with_len 0 h.phnum)

unfoldable pub sections : List ℕ → Header → List Section
sections bytes h = map (section bytes h) (range_with_len 0 h.shnum)

-- the tables lie in the file
abbrev pub HasSegments : List ℕ → Header → Type 0
HasSegments bytes h = h.phoff + SEGMENT_SIZE * h.phnum ≤ length bytes

abbrev pub HasSections : List ℕ → Header → Type 0
HasSections bytes h = h.shoff + SECTION_SIZE * h.shnum ≤ length bytes

-- ---- kinds of segments

abbrev pub is_of_kind : ℕ → Segment → Bool
is_of_kind kind s = s.kind == kind

abbrev pub is_load : Segment → Bool
is_load s = is_of_kind PT_LOAD s

abbrev pub is_dynamic : Segment → Bool
is_dynamic s = is_of_kind PT_DYNAMIC s

-- a kind of segments whose addresses move with the file
unfoldable pub is_moved_kind : ℕ → Bool
is_moved_kind kind = list_any (λ k. k == kind) MOVED_SEGMENTS

-- the PT_LOADs, in the order of the table
abbrev pub loads : List Segment → List Segment
loads ss = filter is_load ss

-- how many segments of a kind there are
abbrev pub count_of_kind : ℕ → List Segment → ℕ
count_of_kind kind ss = count_by (is_of_kind kind) ss

-- the first segment of a kind
abbrev pub segment_of_kind : ℕ → List Segment → Option Segment
segment_of_kind kind ss = find (is_of_kind kind) ss
