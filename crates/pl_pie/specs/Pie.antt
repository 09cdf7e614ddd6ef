-- Which files are position-independent programs that can be fixed: a point a definition. `bytes` are the file's, `o` is the object of the same bytes with the type of a program.
use Rattle.std.specs.Prelude.{ℕ, Bool, false, not, ◌&&◌, ◌||◌, ◌==◌, nat_le, List, [], ◌∷◌, ◌++◌, map, take, drop, slice_get, Option, Some, None, Result, Ok, Err, if◌then◌else◌}
use Rattle.std.specs.List.{list_any}
use Rattle.pl_base.specs.Bytes.{bytes16, put}
use Rattle.pl_base.specs.Windows.{Window, share}
use Rattle.pl_elf.specs.Headers.{header, is_load}
use Rattle.pl_elf.specs.Clauses.{load_window}
use Rattle.pl_elf.specs.Kinds.{is_program}
use Rattle.pl_elf.specs.declared.constants.TheConstants.{ET_EXEC, SHT_DYNSYM, ADDRESS_LIMIT, R_X86_64_COPY}
use Rattle.pl_elf.specs.declared.section.Section.{Section}
use Rattle.pl_elf.specs.declared.segment.Segment.{Segment}
use Rattle.pl_sym.specs.Symbol.{is_absolute, is_in_section}
use Rattle.pl_sym.specs.Definers.{is_linkable, has_value}
use Rattle.pl_sym.specs.declared.symbol.Symbol.{Symbol}
use Rattle.pl_object.specs.Accepted.{tags_of}
use Rattle.pl_object.specs.Named.{range_window, strings_of}
use Rattle.pl_object.specs.Reads as reads
use Rattle.pl_object.specs.SymbolClauses.{base_not_zero}
use Rattle.pl_object.specs.TableClauses.{meets}
use Rattle.pl_object.specs.Tables.{has_kind, is_allocated, section_window, sections_window}
use Rattle.pl_object.specs.declared.object.Object.{Object}
use Rattle.pl_object.specs.declared.refusal.Refusal.{Refusal}
use Rattle.pl_object.specs.declared.reloc.Reloc.{Reloc}
use Rattle.pl_scope.specs.Finds.{binds_itself}
use Rattle.law_fixed.specs.Fixed.{moves}
use Rattle.pl_pie.specs.Words.{passes, type_window, tables_meet, others_meet}
use Rattle.pl_pie.specs.declared.constants.TheConstants.{TYPE_AT, HASH_TABLE, HASH_AND_VERSION_TABLES}

-- ---- the same bytes with another type (System V gABI chapter 4, "ELF Header")

unfoldable pub typed : ℕ → List ℕ → List ℕ
typed kind bytes = put TYPE_AT (bytes16 kind) bytes

abbrev pub as_program : List ℕ → List ℕ
as_program bytes = typed ET_EXEC bytes

-- ---- the points

-- an ET_DYN whose flags or segments tell that it is a program
unfoldable pub is_marked : List ℕ → Object → Bool
is_marked bytes o = reads.is_pie (header bytes) o.segments (tags_of (as_program bytes) o)

-- the first PT_LOAD begins in page 0
unfoldable pub begins_low : Object → Bool
begins_low o = not (base_not_zero false o.segments)

-- the section of the dynamic symbol table has an address
unfoldable pub has_loaded_symbols : Object → Bool
has_loaded_symbols o = list_any (λ s. has_kind SHT_DYNSYM s && is_allocated s) o.sections

-- a PT_LOAD has a byte of a window in its file bytes
abbrev pub loads_window : Window → Segment → Bool
loads_window w s = is_load s && share w (load_window s)

-- of the section header table
unfoldable pub loads_sections : Object → Bool
loads_sections o = list_any (loads_window (sections_window o.header)) o.segments

abbrev pub window_if : Option Section → List Window
window_if None = []
window_if (Some s) = section_window s ∷ []

-- the tables of DT_HASH, DT_GNU_HASH, DT_VERSYM, DT_VERDEF and DT_VERNEED in the file
unfoldable pub named_windows : Object → List Window
named_windows o = map range_window (take HASH_AND_VERSION_TABLES (drop HASH_TABLE o.tables))

-- what is read by name: the strings, the hash tables, the version tables, and the section of section names
unfoldable pub kept_windows : Object → List Window
kept_windows o = strings_of o ∷ named_windows o ++ window_if (slice_get o.sections o.header.shstrndx)

-- a field that is written where the program is fixed shares a byte with one of these
unfoldable pub writes_kept : List ℕ → Object → Bool
writes_kept bytes o =
    meets (kept_windows o) type_window || tables_meet (kept_windows o) (as_program bytes) o || others_meet (kept_windows o) o

-- a value that moves, and is none of an address
abbrev pub is_high : Symbol → Bool
is_high s = moves s && nat_le ADDRESS_LIMIT s.value

-- the entry or a value that moves is at or above the limit of addresses
unfoldable pub has_high : Object → Bool
has_high o = nat_le ADDRESS_LIMIT o.entry || list_any is_high o.symbols

-- a symbol that would be a definer but for its value 0
abbrev pub lacks_value : Symbol → Bool
lacks_value s = is_linkable s && not (has_value s)

-- a symbol that binds to itself, and has no section
abbrev pub is_apart : Symbol → Bool
is_apart s = binds_itself s && not (is_absolute s || is_in_section s)

-- a relocation refers to such a symbol
abbrev pub refers_apart : Object → Reloc → Bool
refers_apart o r = not (r.symbol == 0) && passes is_apart (slice_get o.symbols r.symbol)

-- a COPY from the program itself
abbrev pub copies_itself : Object → Reloc → Bool
copies_itself o r = r.kind == R_X86_64_COPY && passes binds_itself (slice_get o.symbols r.symbol)

abbrev pub refers_badly : Object → Reloc → Bool
refers_badly o r = refers_apart o r || copies_itself o r

-- ---- all of them

-- of the file's layout
unfoldable pub is_laid_out : List ℕ → Object → Bool
is_laid_out bytes o = begins_low o && has_loaded_symbols o && not (loads_sections o) && not (writes_kept bytes o)

-- of its symbols and what refers to them
unfoldable pub is_linked : Object → Bool
is_linked o = not (has_high o) && not (list_any lacks_value o.symbols) && not (list_any (refers_badly o) o.relocations)

unfoldable pub is_pie : List ℕ → Object → Bool
is_pie bytes o = is_program o.kind && is_marked bytes o && is_laid_out bytes o && is_linked o

abbrev pub pie_by : List ℕ → Result Object Refusal → Option Object
pie_by bytes (Err fault) = None
pie_by bytes (Ok o) = if is_pie bytes o then Some o else None

-- the object of a position-independent program as the program that it becomes
unfoldable pub pie : List ℕ → Option Object
pie bytes = pie_by bytes (reads.reads (as_program bytes))
