-- What acceptance clauses 12 to 14 refuse: tables that do not fit together. The first of them that refuses is the file's fault.
use Rattle.std.specs.Prelude.{ℕ, ◌/◌, ◌%◌, Bool, not, ◌&&◌, ◌||◌, ◌==◌, List, [], ◌∷◌, length, count_by, Result, Ok, is_ok, if◌then◌else◌}
use Rattle.std.specs.List.{list_any}
use Rattle.pl_base.specs.Answers.{refuse}
use Rattle.pl_base.specs.Windows.{Window, share, any_share}
use Rattle.pl_elf.specs.declared.constants.TheConstants.{SHT_DYNSYM, RELA_SIZE, RELR_SIZE}
use Rattle.pl_elf.specs.declared.header.Header.{Header}
use Rattle.pl_elf.specs.declared.segment.Segment.{Segment}
use Rattle.pl_elf.specs.declared.section.Section.{Section}
use Rattle.pl_dyn.specs.declared.constants.TheConstants.{DT_PLTRELSZ, DT_HASH, DT_STRTAB, DT_SYMTAB, DT_RELA, DT_RELASZ, DT_RELAENT, DT_STRSZ, DT_SYMENT, DT_PLTREL, DT_JMPREL, DT_RELR, DT_RELRSZ, DT_RELRENT, DT_GNU_HASH, DT_VERSYM, DT_VERDEF, DT_VERNEED}
use Rattle.pl_dyn.specs.declared.tags.Tag.{Tag}
use Rattle.pl_sym.specs.declared.constants.TheConstants.{SYMBOL_SIZE}
use Rattle.pl_relr.specs.Places.{unpacked}
use Rattle.pl_object.specs.FilePart.{file_window, in_file_part, loaded}
use Rattle.pl_object.specs.Tables.{has_tag, value, has_kind, is_lost, tables_memory, relr_memory, main_windows}
use Rattle.pl_object.specs.declared.refusal.Refusal.{Refusal}
use Rattle.pl_object.specs.declared.refusal.Refusal.TheVariants.{Clause}

-- ---- 12. BadTables

-- a tag of the symbols and of the strings is absent, or symbols are of another size
unfoldable pub lacks_tags : List Tag → Bool
lacks_tags tags =
    not (has_tag DT_STRTAB tags) || not (has_tag DT_STRSZ tags) || not (has_tag DT_SYMTAB tags) || not (has_tag DT_SYMENT tags)
    || not (value DT_SYMENT tags == SYMBOL_SIZE)

-- a DYNSYM section that lies elsewhere than its tag says, or has no whole symbols
unfoldable pub is_misplaced : ℕ → Section → Bool
is_misplaced address s = has_kind SHT_DYNSYM s && (not (s.addr == address) || not (s.size % SYMBOL_SIZE == 0))

-- not exactly one DYNSYM section, or a misplaced one
unfoldable pub other_dynsym : List Tag → List Section → Bool
other_dynsym tags sections = not (count_by (has_kind SHT_DYNSYM) sections == 1) || list_any (is_misplaced (value DT_SYMTAB tags)) sections

-- a tag names a table that no section tells the size of
unfoldable pub any_lost : List Tag → List Section → Bool
any_lost tags sections =
    is_lost DT_HASH tags sections || is_lost DT_GNU_HASH tags sections || is_lost DT_VERSYM tags sections
    || is_lost DT_VERDEF tags sections || is_lost DT_VERNEED tags sections

-- a table that a tag names is not in the file part
unfoldable pub any_table_outside : List Segment → List Section → List Tag → Bool
any_table_outside ss sections tags = any_lost tags sections || list_any (λ w. not (in_file_part ss w)) (tables_memory tags sections)

-- two tables overlap in the file
unfoldable pub tables_overlap : Header → List Segment → List Section → List Tag → Bool
tables_overlap h ss sections tags = any_share (main_windows h ss sections tags)

unfoldable pub bad_tables : Header → List Segment → List Section → List Tag → Bool
bad_tables h ss sections tags =
    lacks_tags tags || other_dynsym tags sections || any_table_outside ss sections tags || tables_overlap h ss sections tags

-- ---- 13. RelTable

-- one of two tags is there without the other
abbrev pub parted : ℕ → ℕ → List Tag → Bool
parted x y tags = if has_tag x tags then not (has_tag y tags) else has_tag y tags

-- a tag has a value other than this
abbrev pub is_other : ℕ → ℕ → List Tag → Bool
is_other number wanted tags = has_tag number tags && not (value number tags == wanted)

-- a tag's value is no multiple of a relocation's size
abbrev pub is_uneven : ℕ → List Tag → Bool
is_uneven number tags = not (value number tags % RELA_SIZE == 0)

unfoldable pub bad_rela : List Tag → Bool
bad_rela tags =
    parted DT_RELA DT_RELASZ tags || parted DT_RELA DT_RELAENT tags || is_other DT_RELAENT RELA_SIZE tags || is_uneven DT_RELASZ tags

unfoldable pub bad_jmprel : List Tag → Bool
bad_jmprel tags =
    parted DT_JMPREL DT_PLTRELSZ tags || parted DT_JMPREL DT_PLTREL tags || is_other DT_PLTREL DT_RELA tags || is_uneven DT_PLTRELSZ tags

unfoldable pub bad_relocation_tables : List Tag → Bool
bad_relocation_tables tags = bad_rela tags || bad_jmprel tags

-- ---- 14. Packed

-- the three tags do not stand together, or the size of an entry is another
unfoldable pub bad_relr_tags : List Tag → Bool
bad_relr_tags tags = parted DT_RELR DT_RELRSZ tags || parted DT_RELR DT_RELRENT tags || is_other DT_RELRENT RELR_SIZE tags

-- a window shares a byte with one of the others
abbrev pub meets : List Window → Window → Bool
meets tables w = list_any (share w) tables

-- the packed table is not in the file part, or overlaps a table of clause 12
unfoldable pub misplaced_relr : Header → List Segment → List Section → List Tag → Bool
misplaced_relr h ss sections tags =
    not (in_file_part ss (relr_memory tags)) || meets (main_windows h ss sections tags) (file_window ss (relr_memory tags))

-- the bytes of the packed table
abbrev pub relr_table : List ℕ → List Segment → List Tag → List ℕ
relr_table bytes ss tags = loaded bytes ss (relr_memory tags)

-- the packed table names no places, or more than an eighth of the file's length
unfoldable pub bad_relr_table : List ℕ → List Segment → List Tag → Bool
bad_relr_table bytes ss tags = not (is_ok (unpacked (relr_table bytes ss tags) (length bytes / RELR_SIZE)))

unfoldable pub bad_packed : List ℕ → Header → List Segment → List Section → List Tag → Bool
bad_packed bytes h ss sections tags = bad_relr_tags tags || misplaced_relr h ss sections tags || bad_relr_table bytes ss tags

-- ---- the three in order

unfoldable pub check_tables : List ℕ → Header → List Segment → List Section → List Tag → Result (Unit {0}) Refusal
check_tables bytes h ss sections tags =
    refuse (
    (bad_tables h ss sections tags, Clause 12 0) ∷ (bad_relocation_tables tags, Clause 13 0) ∷ (bad_packed bytes h ss sections tags, Clause 14 0) ∷ [])
    (Ok tt)
