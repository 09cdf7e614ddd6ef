-- What acceptance clauses 1 to 8 refuse, each a test of the whole file. The first that refuses is the file's fault. At the head of each stands where its rules come from: System V gABI, chapters 4 and 5, or this project's profile, which takes fewer files.
use Rattle.std.specs.Prelude.{◌≡◌, ℕ, ◌+◌, ◌*◌, ◌%◌, Bool, true, false, not, ◌&&◌, ◌||◌, ◌==◌, nat_lt, nat_le, List, [], ◌∷◌, length, map, Result, Ok, if◌then◌else◌}
use Rattle.std.specs.List.{range_with_len, list_any}
use Rattle.std.specs.Int.{is_power_of_two}
use Rattle.pl_base.specs.Bytes.{byte, part}
use Rattle.pl_base.specs.Answers.{refuse}
use Rattle.pl_base.specs.Strings.{has_end}
use Rattle.pl_base.specs.Windows.{Window, any_share}
use Rattle.pl_elf.specs.Headers.{header, segment, segment_offset, segments, section, sections, is_of_kind, is_load, is_dynamic, loads, count_of_kind}
use Rattle.pl_elf.specs.declared.constants.TheConstants.{HEADER_SIZE, SEGMENT_SIZE, SECTION_SIZE, EI_MAG0, EI_MAG1, EI_MAG2, EI_MAG3, ELFMAG0, ELFMAG1, ELFMAG2, ELFMAG3, EI_CLASS, EI_DATA, EI_VERSION, ELFCLASS64, ELFDATA2LSB, EV_CURRENT, ET_EXEC, ET_DYN, EM_X86_64, PT_DYNAMIC, PT_INTERP, PT_TLS, SHT_NOBITS, MAX_LOAD_ALIGN, ADDRESS_LIMIT, MAX_SECTIONS}
use Rattle.pl_elf.specs.declared.header.Header.{Header}
use Rattle.pl_elf.specs.declared.segment.Segment.{Segment}
use Rattle.pl_elf.specs.declared.section.Section.{Section}
use Rattle.pl_elf.specs.declared.fault.HeaderFault.{HeaderFault}
use Rattle.pl_elf.specs.declared.fault.HeaderFault.TheVariants.{NotElf, Class, Machine, Kind, Truncated, BadSegment, BadSection, NoSections}

-- bytes from an offset on pass the end of the file, also where they are none
unfoldable pub passes : List ℕ → ℕ → ℕ → Bool
passes bytes offset size = nat_lt (length bytes) (offset + size)

-- ---- 1. NotElf
-- the magic bytes, and the size of a header: gABI chapter 4, "ELF Identification" and "ELF Header"

unfoldable pub not_elf : List ℕ → Bool
not_elf bytes =
    nat_lt (length bytes) HEADER_SIZE
    || not (byte EI_MAG0 bytes == ELFMAG0 && byte EI_MAG1 bytes == ELFMAG1 && byte EI_MAG2 bytes == ELFMAG2 && byte EI_MAG3 bytes == ELFMAG3)

-- ---- 2. Class
-- the numbers: gABI chapter 4, "ELF Identification"; that only these are taken: x86-64 psABI, "Machine Information"

unfoldable pub other_class : List ℕ → Bool
other_class bytes = not (byte EI_CLASS bytes == ELFCLASS64 && byte EI_DATA bytes == ELFDATA2LSB && byte EI_VERSION bytes == EV_CURRENT)

-- ---- 3. Machine
-- the number: x86-64 psABI, "Machine Information"; that only it is taken: this project's profile

abbrev pub other_machine : Header → Bool
other_machine h = not (h.machine == EM_X86_64)

-- ---- 4. Kind
-- the types: gABI chapter 4, "ELF Header"; that only these are taken, and an ET_DYN only with PT_DYNAMIC: this project's profile

-- a program header that lies in the file and is PT_DYNAMIC
unfoldable pub is_seen_dynamic : List ℕ → Header → ℕ → Bool
is_seen_dynamic bytes h index = not (passes bytes (segment_offset h index) SEGMENT_SIZE) && is_dynamic (segment bytes h index)

unfoldable pub has_dynamic : List ℕ → Header → Bool
has_dynamic bytes h = list_any (is_seen_dynamic bytes h) (range_with_len 0 h.phnum)

-- neither a program nor a library
unfoldable pub other_kind : List ℕ → Header → Bool
other_kind bytes h = not (h.kind == ET_EXEC) && not (h.kind == ET_DYN && has_dynamic bytes h)

-- ---- 5. Truncated
-- where tables, sections and segments stand in a file: gABI chapter 4, "ELF Header" and "Sections", and chapter 5, "Program Header"
-- which of them are looked at, and when: this project's profile

-- a program without a dynamic table
unfoldable pub is_static_file : List ℕ → Header → Bool
is_static_file bytes h = h.kind == ET_EXEC && not (has_dynamic bytes h)

-- a segment without file bytes in a static program is not looked at
abbrev pub segment_passes : List ℕ → Bool → Segment → Bool
segment_passes bytes static s = passes bytes s.offset s.filesz && not (static && s.filesz == 0)

abbrev pub section_passes : List ℕ → Section → Bool
section_passes bytes s = not (s.kind == SHT_NOBITS) && passes bytes s.offset s.size

unfoldable pub truncated : List ℕ → Header → Bool
truncated bytes h =
    passes bytes h.phoff (SEGMENT_SIZE * h.phnum) || passes bytes h.shoff (SECTION_SIZE * h.shnum)
    || list_any (segment_passes bytes (is_static_file bytes h)) (segments bytes h)
    || list_any (section_passes bytes) (sections bytes h)

-- ---- 6. BadSegment
-- gABI chapter 5, "Program Header": memsz is at least filesz, an alignment is 0 or a power of two, address and file offset are congruent modulo it, PT_LOADs ascend, PT_INTERP stands at most once
-- this project's profile: the size of a program header, at least one PT_LOAD, at most one PT_DYNAMIC and PT_TLS, the greatest alignment and address, no byte in common

-- neither 0 nor a power of two
unfoldable pub bad_align : ℕ → Bool
bad_align align = not (align == 0) && not (is_power_of_two align)

-- the address and the file offset are not congruent modulo the alignment
unfoldable pub not_congruent : Segment → Bool
not_congruent s = not (s.align == 0) && not (s.vaddr % s.align == s.offset % s.align)

-- a PT_LOAD that is refused by itself
unfoldable pub bad_load : Segment → Bool
bad_load s =
    nat_lt s.memsz s.filesz || bad_align s.align || nat_lt MAX_LOAD_ALIGN s.align || not_congruent s
    || nat_lt ADDRESS_LIMIT (s.vaddr + s.memsz)

-- each begins in memory at or after an address, the next ones at or after the end of the one before
abbrev pub ascend_from : ℕ → List Segment → Bool
ascend_from address [] = true
ascend_from address (s ∷ ss) = nat_le address s.vaddr && ascend_from (s.vaddr + s.memsz) ss

-- the bytes of a segment in the file
abbrev pub load_window : Segment → Window
load_window s = record { at = s.offset; size = s.filesz }

abbrev pub load_windows : List Segment → List Window
load_windows ss = map load_window ss

-- two PT_LOADs have a byte of the file in common
unfoldable pub overlap_in_file : List Segment → Bool
overlap_in_file ss = any_share (load_windows (loads ss))

-- two PT_LOADs of a file have a byte of it in common
abbrev pub loads_overlap : List ℕ → Header → Bool
loads_overlap bytes h = overlap_in_file (segments bytes h)

-- a PT_TLS that is refused by itself
abbrev pub bad_tls : Segment → Bool
bad_tls s = is_of_kind PT_TLS s && bad_align s.align

-- more than one segment of a kind that may stand once
unfoldable pub has_second_of_a_kind : List Segment → Bool
has_second_of_a_kind ss = nat_lt 1 (count_of_kind PT_DYNAMIC ss) || nat_lt 1 (count_of_kind PT_TLS ss) || nat_lt 1 (count_of_kind PT_INTERP ss)

unfoldable pub bad_segment : Header → List Segment → Bool
bad_segment h ss =
    not (h.phentsize == SEGMENT_SIZE) || not (list_any is_load ss) || has_second_of_a_kind ss
    || list_any (λ s. is_load s && bad_load s) ss || not (ascend_from 0 (loads ss)) || overlap_in_file ss
    || list_any bad_tls ss

-- what is known of accepted PT_LOADs: they ascend in memory, and none of them is refused by itself
pub record AreLoads (ss : List Segment) : Type 0 where
  pub ascend : ascend_from 0 ss ≡ true
  pub fit : list_any bad_load ss ≡ false

-- ---- 7. BadSection
-- gABI chapter 4, "ELF Header", "Sections" and "String Table": the index of the section of names, and names that a 0 byte ends
-- this project's profile: the size of a section header, and the most sections

-- the bytes of a section in the file
unfoldable pub section_data : List ℕ → Section → List ℕ
section_data bytes s = if s.kind == SHT_NOBITS then [] else part s.offset s.size bytes

-- the section of section names
abbrev pub names : List ℕ → Header → List ℕ
names bytes h = section_data bytes (section bytes h h.shstrndx)

unfoldable pub bad_section : List ℕ → Header → List Section → Bool
bad_section bytes h ss =
    not (h.shnum == 0)
    && (not (h.shentsize == SECTION_SIZE) || nat_lt MAX_SECTIONS h.shnum || nat_le h.shnum h.shstrndx
    || list_any (λ s. not (has_end s.name (names bytes h))) ss)

-- ---- 8. NoSections
-- this project's profile

abbrev pub no_sections : Header → Bool
no_sections h = h.shnum == 0

-- ---- the eight in order
-- this project's profile

-- the header, or the first clause that refuses the file
unfoldable pub read : List ℕ → Result Header HeaderFault
read bytes = let h = header bytes in
    refuse (
    (not_elf bytes, NotElf) ∷ (other_class bytes, Class) ∷ (other_machine h, Machine) ∷ (other_kind bytes h, Kind)
    ∷ (truncated bytes h, Truncated) ∷ (bad_segment h (segments bytes h), BadSegment)
    ∷ (bad_section bytes h (sections bytes h), BadSection) ∷ (no_sections h, NoSections) ∷ [])
    (Ok h)
