-- What is known of every accepted object, beside that it is read from its file.
use Rattle.std.specs.Prelude.{◌≡◌, ℕ, ◌+◌, ◌*◌, ◌%◌, ◌<◌, ◌≤◌, Bool, true, false, not, ◌==◌, List, ◌∷◌, ◌++◌, map, length, is_some}
use Rattle.std.specs.List.{list_any, All}
use Rattle.pl_base.specs.Windows.{Window, any_share}
use Rattle.pl_elf.specs.Headers.{header, segments, sections, HasSegments, HasSections, loads, segment_of_kind}
use Rattle.pl_elf.specs.Clauses.{AreLoads, segment_passes, overlap_in_file}
use Rattle.pl_elf.specs.Kinds.{is_library, is_static}
use Rattle.pl_elf.specs.declared.constants.TheConstants.{HEADER_SIZE, ET_EXEC, PT_DYNAMIC, RELA_SIZE, RELR_SIZE}
use Rattle.pl_dyn.specs.Entries.{tags}
use Rattle.pl_dyn.specs.declared.constants.TheConstants.{ENTRY_SIZE, DT_SYMTAB, DT_STRTAB, DT_STRSZ}
use Rattle.pl_dyn.specs.declared.tags.Tag.{Tag}
use Rattle.pl_sym.specs.declared.constants.TheConstants.{SYMBOL_SIZE}
use Rattle.pl_hash.specs.Chain.{IsWellFormed}
use Rattle.pl_relr.specs.Places as relr
use Rattle.pl_object.specs.FilePart.{file_window, in_file_part, loaded}
use Rattle.pl_object.specs.Tables.{has_tag, window_range, dynamic_memory, symbols_memory, strings_memory, rela_memory, jmprel_memory, relr_memory, tables_memory, symtab_windows, sections_window, main_windows, link_windows}
use Rattle.pl_object.specs.Named.{range_window, dynamic_of, symbols_of, strings_of, rela_of, jmprel_of, packed_of, symtabs_of}
use Rattle.pl_object.specs.TableClauses.{meets, relr_table}
use Rattle.pl_object.specs.SymbolClauses.{hash_tables, hash_incomplete}
use Rattle.pl_object.specs.Relocations.{width, raw_width, relocs, packed_relocs}
use Rattle.pl_object.specs.PlaceClauses as clauses
use Rattle.pl_object.specs.PlaceClauses.{is_bad, reloc_outside, reloc_overlap, reloc_in_tables, odd_addend, misplaced_copy}
use Rattle.pl_object.specs.Reads.{span, align}
use Rattle.pl_object.specs.declared.object.Object.{Object}

-- whether it is a program, with relocations or without
abbrev pub is_exec : Object → Bool
is_exec o = o.header.kind == ET_EXEC

-- the link tables and the section header table: no place shares a byte with one of them
abbrev pub kept_windows : Object → List Window
kept_windows o = sections_window o.header ∷ map range_window o.tables

-- ---- the header and its tables

pub record HasHead (bytes : List ℕ) (o : Object) : Type 0 where
  -- they are those of the file
  pub header : header bytes ≡ o.header
  pub segments : segments bytes o.header ≡ o.segments
  pub sections : sections bytes o.header ≡ o.sections
  -- they lie in it
  pub long : HEADER_SIZE ≤ length bytes
  pub segments_in : HasSegments bytes o.header
  pub sections_in : HasSections bytes o.header

-- ---- the dynamic table, and the tables that it names

-- its bytes, and its tags
abbrev pub dynamic_table : List ℕ → Object → List ℕ
dynamic_table bytes o = loaded bytes o.segments (dynamic_memory o.segments)

abbrev pub tags_of : List ℕ → Object → List Tag
tags_of bytes o = tags (dynamic_table bytes o)

-- the dynamic table and each table that a tag names, with these tags, lie in the file part, in whole rows
pub record AreWhole (o : Object) (ts : List Tag) : Type 0 where
  pub dynamic : is_some (segment_of_kind PT_DYNAMIC o.segments) ≡ true
  pub dynamic_in : in_file_part o.segments (dynamic_memory o.segments) ≡ true
  pub dynamic_rows : (dynamic_memory o.segments).size % ENTRY_SIZE ≡ 0
  pub symbols : has_tag DT_SYMTAB ts ≡ true
  pub strings : has_tag DT_STRTAB ts ≡ true
  pub strings_size : has_tag DT_STRSZ ts ≡ true
  pub tables_in : list_any (λ w. not (in_file_part o.segments w)) (tables_memory ts o.sections) ≡ false
  pub packed_in : in_file_part o.segments (relr_memory ts) ≡ true
  pub symbol_rows : (symbols_memory ts o.sections).size ≡ SYMBOL_SIZE * length o.symbols
  pub rela_rows : (rela_memory ts).size % RELA_SIZE ≡ 0
  pub jmprel_rows : (jmprel_memory ts).size % RELA_SIZE ≡ 0
  pub packed_rows : (relr_memory ts).size % RELR_SIZE ≡ 0

-- the link tables by their names are where these tags say
pub record AreNamed (o : Object) (ts : List Tag) : Type 0 where
  pub dynamic : dynamic_of o ≡ file_window o.segments (dynamic_memory o.segments)
  pub symbols : symbols_of o ≡ file_window o.segments (symbols_memory ts o.sections)
  pub strings : strings_of o ≡ file_window o.segments (strings_memory ts)
  pub rela : rela_of o ≡ file_window o.segments (rela_memory ts)
  pub jmprel : jmprel_of o ≡ file_window o.segments (jmprel_memory ts)
  pub packed : packed_of o ≡ file_window o.segments (relr_memory ts)
  pub symtabs : map range_window (symtabs_of o) ≡ symtab_windows o.sections

-- what is known of a program or library by these tags, those of its dynamic table
pub record IsTabled (bytes : List ℕ) (o : Object) (ts : List Tag) : Type 0 where
  -- the file bytes of each segment lie in the file
  pub files : list_any (segment_passes bytes false) o.segments ≡ false
  pub shape : o.tables ≡ map window_range (link_windows o.header o.segments o.sections ts)
  pub named : AreNamed o ts
  pub whole : AreWhole o ts
  -- no two of the headers and the tables that are changed when an object is moved overlap in the file, the packed table included
  pub apart : any_share (main_windows o.header o.segments o.sections ts) ≡ false
  pub packed_apart : meets (main_windows o.header o.segments o.sections ts) (file_window o.segments (relr_memory ts)) ≡ false
  -- the relocations are those of DT_RELA, of DT_JMPREL, and the packed ones
  pub rows : o.relocations
      ≡ relocs o.symbols (loaded bytes o.segments (rela_memory ts)) ++ relocs o.symbols (loaded bytes o.segments (jmprel_memory ts))
      ++ packed_relocs bytes o.segments (relr.places (relr_table bytes o.segments ts))
  pub packed : o.packed ≡ length (relr.places (relr_table bytes o.segments ts))
  -- each place is as wide as its kind and the bytes of the symbol table say
  pub widths : All (λ r. r.width ≡ raw_width (loaded bytes o.segments (symbols_memory ts o.sections)) r.kind r.symbol) o.relocations
  -- the tags are followed by the entry of tag DT_NULL that ends them, the spare ones, and nothing else
  pub ended : ENTRY_SIZE * (length ts + o.spare + 1) ≡ length (dynamic_table bytes o)
  pub hashes : o.hashes ≡ hash_tables bytes o.segments o.sections ts (length o.symbols)

-- ---- every object

pub record Accepted (bytes : List ℕ) (o : Object) : Type 0 where
  pub head : HasHead bytes o
  -- the PT_LOADs ascend in memory, and end at or below the limit of addresses
  pub loads : AreLoads (loads o.segments)
  -- no two of them share a byte of the file
  pub files_apart : overlap_in_file o.segments ≡ false
  pub span : o.span ≡ span o.segments
  pub align : o.align ≡ align o.segments
  pub some : is_library o.kind ≡ true → 0 < o.span
  -- the link tables lie in the file
  pub tables : All (λ range. range.end ≤ length bytes) o.tables
  pub tabled : is_static o.kind ≡ false → IsTabled bytes o (tags_of bytes o)
  -- there are no more symbols than bytes
  pub few : length o.symbols ≤ length bytes
  -- each hash table is well formed, knows the count of symbols, and leads to each definer of every reference
  pub formed : All IsWellFormed o.hashes
  pub counted : All (λ table. table.symbols ≡ length o.symbols) o.hashes
  pub hashed : hash_incomplete o.hashes o.symbols ≡ false
  -- each relocation is of a known kind, its symbol is below the count of symbols, and it is as wide as both say
  pub relocs : list_any (is_bad (length o.symbols)) o.relocations ≡ false
  pub widths : All (λ r. r.width ≡ width o.symbols r.kind r.symbol) o.relocations
  -- each place is in the file part or, in a program, in the memory of the last PT_LOAD
  pub held : reloc_outside (is_exec o) o.segments o.relocations ≡ false
  -- those of the packed relocations, which stand last, are in the file part
  pub packed_few : o.packed ≤ length o.relocations
  pub packed_held : reloc_outside false o.segments (clauses.last_packed o.packed o.relocations) ≡ false
  -- no two places share a byte
  pub apart : reloc_overlap o.relocations ≡ false
  -- no place shares a byte with a table
  pub clear : reloc_in_tables (kept_windows o) o.segments o.relocations ≡ false
  -- no addend where a symbol's address or bytes alone count
  pub plain : odd_addend o.relocations ≡ false
  -- a COPY stands in a program alone, and has a symbol
  pub copies : misplaced_copy (is_exec o) o.relocations ≡ false
