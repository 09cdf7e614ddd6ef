-- Where the tables of an object stand: each extent once, as a window of memory or of the file (System V gABI chapter 5, "Dynamic Section"; GNU hash table; GNU symbol versioning).
use Rattle.std.specs.Prelude.{ℕ, ◌*◌, Bool, not, ◌&&◌, ◌==◌, nat_lt, List, [], ◌∷◌, ◌++◌, map, filter, find, bit_and, Option, Some, None, is_some, unwrap_or, if◌then◌else◌}
use Rattle.std.specs.List.{list_any}
use Rattle.pl_base.specs.Windows.{Window}
use Rattle.pl_elf.specs.Headers.{segment_of_kind}
use Rattle.pl_elf.specs.declared.constants.TheConstants.{HEADER_SIZE, SEGMENT_SIZE, SECTION_SIZE, PT_DYNAMIC, SHT_SYMTAB, SHT_DYNSYM, SHT_NOBITS, SHF_ALLOC}
use Rattle.pl_elf.specs.declared.header.Header.{Header}
use Rattle.pl_elf.specs.declared.segment.Segment.{Segment}
use Rattle.pl_elf.specs.declared.section.Section.{Section}
use Rattle.pl_elf.specs.Ranges.{range_from}
use Rattle.pl_elf.specs.declared.range.Range.{Range}
use Rattle.pl_dyn.specs.Read.{value_of}
use Rattle.pl_dyn.specs.declared.constants.TheConstants.{DT_HASH, DT_STRTAB, DT_SYMTAB, DT_RELA, DT_RELASZ, DT_STRSZ, DT_JMPREL, DT_PLTRELSZ, DT_RELR, DT_RELRSZ, DT_GNU_HASH, DT_VERSYM, DT_VERDEF, DT_VERNEED}
use Rattle.pl_dyn.specs.declared.tags.Tag.{Tag}
use Rattle.pl_object.specs.FilePart.{nothing, file_window}

-- ---- tags

abbrev pub has_tag : ℕ → List Tag → Bool
has_tag number tags = is_some (value_of number tags)

-- a tag's value, 0 where the tag is absent
abbrev pub value : ℕ → List Tag → ℕ
value number tags = unwrap_or (value_of number tags) 0

-- ---- windows of memory

abbrev pub memory_of : Option Segment → Window
memory_of None = nothing
memory_of (Some s) = record { at = s.vaddr; size = s.filesz }

-- the bytes in the file of PT_DYNAMIC
unfoldable pub dynamic_memory : List Segment → Window
dynamic_memory ss = memory_of (segment_of_kind PT_DYNAMIC ss)

-- as many bytes as one tag says at the address of another; none where one of the two is absent
unfoldable pub tag_memory : ℕ → ℕ → List Tag → Window
tag_memory address size tags =
    if has_tag address tags && has_tag size tags then record { at = value address tags; size = value size tags } else nothing

abbrev pub strings_memory : List Tag → Window
strings_memory tags = tag_memory DT_STRTAB DT_STRSZ tags

abbrev pub rela_memory : List Tag → Window
rela_memory tags = tag_memory DT_RELA DT_RELASZ tags

abbrev pub jmprel_memory : List Tag → Window
jmprel_memory tags = tag_memory DT_JMPREL DT_PLTRELSZ tags

-- the packed relocations, which are no table of `tables_memory`
abbrev pub relr_memory : List Tag → Window
relr_memory tags = tag_memory DT_RELR DT_RELRSZ tags

abbrev pub has_kind : ℕ → Section → Bool
has_kind kind s = s.kind == kind

abbrev pub section_size : Option Section → ℕ
section_size None = 0
section_size (Some s) = s.size

-- as many bytes as the DYNSYM section has
unfoldable pub symbols_memory : List Tag → List Section → Window
symbols_memory tags sections = record { at = value DT_SYMTAB tags; size = section_size (find (has_kind SHT_DYNSYM) sections) }

abbrev pub is_allocated : Section → Bool
is_allocated s = not (bit_and s.flags SHF_ALLOC == 0)

-- a section with bytes in memory and in the file that begin at an address
unfoldable pub begins_at : ℕ → Section → Bool
begins_at address s = is_allocated s && not (s.kind == SHT_NOBITS) && nat_lt 0 s.size && s.addr == address

-- as many bytes as the first section has that begins where a tag says; none where the tag or such a section is absent
unfoldable pub section_memory : ℕ → List Tag → List Section → Window
section_memory number tags sections =
    if has_tag number tags then record { at = value number tags; size = section_size (find (begins_at (value number tags)) sections) } else nothing

-- a tag is there, and no section begins where it says
unfoldable pub is_lost : ℕ → List Tag → List Section → Bool
is_lost number tags sections = has_tag number tags && not (list_any (begins_at (value number tags)) sections)

-- the tables that a tag names
unfoldable pub tables_memory : List Tag → List Section → List Window
tables_memory tags sections =
    symbols_memory tags sections ∷ strings_memory tags ∷ rela_memory tags ∷ jmprel_memory tags
    ∷ section_memory DT_HASH tags sections ∷ section_memory DT_GNU_HASH tags sections
    ∷ section_memory DT_VERSYM tags sections ∷ section_memory DT_VERDEF tags sections ∷ section_memory DT_VERNEED tags sections ∷ []

-- ---- windows of the file

abbrev pub header_window : Window
header_window = record { at = 0; size = HEADER_SIZE }

abbrev pub segments_window : Header → Window
segments_window h = record { at = h.phoff; size = SEGMENT_SIZE * h.phnum }

abbrev pub sections_window : Header → Window
sections_window h = record { at = h.shoff; size = SECTION_SIZE * h.shnum }

abbrev pub section_window : Section → Window
section_window s = record { at = s.offset; size = s.size }

-- the symbol tables that are not for linking at the start
unfoldable pub symtab_windows : List Section → List Window
symtab_windows sections = map section_window (filter (has_kind SHT_SYMTAB) sections)

-- no two of these may overlap: the headers, and the tables that are changed when an object is moved
unfoldable pub main_windows : Header → List Segment → List Section → List Tag → List Window
main_windows h ss sections tags =
    (header_window ∷ segments_window h ∷ sections_window h
    ∷ file_window ss (dynamic_memory ss) ∷ file_window ss (symbols_memory tags sections)
    ∷ file_window ss (rela_memory tags) ∷ file_window ss (jmprel_memory tags) ∷ [])
    ++ symtab_windows sections

-- the link tables: a byte of memory that is loaded from one of their bytes belongs to the link alone
unfoldable pub link_windows : Header → List Segment → List Section → List Tag → List Window
link_windows h ss sections tags =
    (header_window ∷ segments_window h ∷ map (file_window ss) (dynamic_memory ss ∷ tables_memory tags sections))
    ++ file_window ss (relr_memory tags) ∷ symtab_windows sections

-- those of a static program
unfoldable pub static_windows : Header → List Section → List Window
static_windows h sections = (header_window ∷ segments_window h ∷ []) ++ symtab_windows sections

abbrev pub window_range : Window → Range
window_range w = range_from w.at w.size
