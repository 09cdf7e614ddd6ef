-- The file: the header, the program header table, the path of the interpreter, the tables, the data, the names of the sections and the section header table.
use Rattle.std.specs.Prelude.{ℕ, ◌+◌, ◌*◌, List, [], ◌∷◌, ◌++◌, length, nat_lt, Option, Some, None, Result, Ok, Err, codes, if◌then◌else◌}
use Rattle.std.specs.List.{flat_map}
use Rattle.pl_base.specs.Answers.{◌>>=◌}
use Rattle.pl_base.specs.Sums.{plus, round_up}
use Rattle.pl_elf.specs.declared.constants.TheConstants.{HEADER_SIZE, SEGMENT_SIZE, SECTION_SIZE, ELFMAG0, ELFMAG1, ELFMAG2, ELFMAG3, ELFCLASS64, ELFDATA2LSB, EV_CURRENT, EM_X86_64, ET_EXEC, ET_DYN}
use Rattle.pl_build.specs.declared.constants.TheConstants.{INTERP_OFFSET, TABLES_OFFSET, TABLE_ALIGN, MAX_FILE}
use Rattle.pl_build.specs.declared.checks.Fault.{Fault}
use Rattle.pl_build.specs.declared.fields.Field.{Field}
use Rattle.pl_build.specs.declared.fields.Field.TheVariants.{Byte, Half, Word, Xword}
use Rattle.pl_build.specs.declared.layout.Tables.{Tables}
use Rattle.pl_build.specs.declared.layout_plan.LayoutPlan.{LayoutPlan}
use Rattle.pl_build.specs.declared.recipe.Settings.{Settings}
use Rattle.pl_build.specs.declared.roles.PlacedSection.{PlacedSection}
use Rattle.pl_build.specs.declared.string_table.StringTable.{StringTable}
use Rattle.pl_build.specs.Data.{data_bytes}
use Rattle.pl_build.specs.Dynamic.{place_of}
use Rattle.pl_build.specs.Fields.{fields}
use Rattle.pl_build.specs.Layout.{too_large, filled_to, tables, end_of}
use Rattle.pl_build.specs.FileKinds.{is_position_independent}
use Rattle.pl_elf.specs.Written.{segment_bytes}
use Rattle.pl_build.specs.LayoutPlan.{base_of, data_address, has_interp}
use Rattle.pl_build.specs.Roles.{index_of}
use Rattle.pl_build.specs.Sections.{first_places, last_places, section_row_bytes, section_rows}
use Rattle.pl_build.specs.Segments.{interp_bytes, segments, data_offset}
use Rattle.pl_build.specs.StringTable.{section_names}

-- ---- the header (System V gABI chapter 4, "ELF Header")

abbrev pub entry_or_base : Settings → Option ℕ → ℕ
entry_or_base s (Some offset) = plus (data_address s) offset
entry_or_base s None = base_of s

-- magic bytes, class, byte order and version, then zeros
abbrev pub ident : List Field
ident = Byte ELFMAG0 ∷ Byte ELFMAG1 ∷ Byte ELFMAG2 ∷ Byte ELFMAG3 ∷ Byte ELFCLASS64 ∷ Byte ELFDATA2LSB ∷ Byte EV_CURRENT ∷ Byte 0 ∷ Xword 0 ∷ []

unfoldable pub type_of : Settings → ℕ
type_of s = if is_position_independent s.kind then ET_DYN else ET_EXEC

abbrev pub first_header_fields : Settings → ℕ → List Field
first_header_fields s shoff =
    Half (type_of s) ∷ Half EM_X86_64 ∷ Word EV_CURRENT ∷ Xword (entry_or_base s s.entry) ∷ Xword HEADER_SIZE ∷ Xword shoff ∷ []

abbrev pub last_header_fields : ℕ → ℕ → ℕ → List Field
last_header_fields phnum shnum shstrndx =
    Word 0 ∷ Half HEADER_SIZE ∷ Half SEGMENT_SIZE ∷ Half phnum ∷ Half SECTION_SIZE ∷ Half shnum ∷ Half shstrndx ∷ []

-- for so many segments, and a section header table at an offset
unfoldable pub header_bytes : LayoutPlan → ℕ → ℕ → List ℕ
header_bytes p phnum shoff =
    fields ident
    ++ fields (first_header_fields p.settings shoff)
    ++ fields (last_header_fields phnum (length p.roles) (index_of p.roles (codes ".shstrtab")))

-- ---- the parts

unfoldable pub interp_of : Settings → List ℕ
interp_of s = if has_interp s then interp_bytes else []

-- the header, the program header table and the path of the interpreter, where the tables end at an offset
unfoldable pub front : LayoutPlan → Tables → ℕ → ℕ → List ℕ
front p t tables_end shoff =
    let all = segments p.settings tables_end (place_of t.places (codes ".dynamic")) in
    filled_to INTERP_OFFSET (header_bytes p (length all) shoff ++ flat_map segment_bytes all) ++ interp_of p.settings

unfoldable pub up_to_data : LayoutPlan → Tables → ℕ → ℕ → List ℕ
up_to_data p t tables_end shoff =
    filled_to (data_offset tables_end) (filled_to TABLES_OFFSET (front p t tables_end shoff) ++ t.bytes)

-- the sections, where the data stands at an offset
unfoldable pub places_of : LayoutPlan → Tables → ℕ → ℕ → List PlacedSection
places_of p t offset names_size = first_places p ++ t.places ++ last_places p offset names_size

unfoldable pub file_of : LayoutPlan → Tables → ℕ → StringTable → ℕ → List ℕ
file_of p t tables_end names shoff =
    filled_to shoff (up_to_data p t tables_end shoff ++ data_bytes p.settings.data_size p.words ++ names.bytes)
    ++ flat_map section_row_bytes (section_rows p names (places_of p t (data_offset tables_end) (length names.bytes)))

-- where the names of the sections end
unfoldable pub parts_end : LayoutPlan → ℕ → StringTable → ℕ
parts_end p tables_end names = data_offset tables_end + p.settings.data_size + length names.bytes

-- where the section header table begins
unfoldable pub sections_offset : LayoutPlan → ℕ → StringTable → ℕ
sections_offset p tables_end names = round_up (parts_end p tables_end names) TABLE_ALIGN

-- where the section header table ends, and with it the file
abbrev pub file_end : LayoutPlan → ℕ → StringTable → ℕ
file_end p tables_end names = sections_offset p tables_end names + SECTION_SIZE * length p.roles

unfoldable pub limited : LayoutPlan → StringTable → Tables → Result (List ℕ) Fault
limited p names t =
    if nat_lt MAX_FILE (file_end p (end_of t) names) then Err too_large
    else Ok (file_of p t (end_of t) names (sections_offset p (end_of t) names))

unfoldable pub made : LayoutPlan → Result (List ℕ) Fault
made p = tables p >>= limited p (section_names p.roles)
