-- One object, or the first acceptance clause that refuses the file.
use Rattle.std.specs.Prelude.{◌≡◌, ℕ, ◌+◌, ◌/◌, Bool, false, not, ◌&&◌, ◌||◌, ◌==◌, nat_lt, max, List, [], ◌∷◌, ◌++◌, map, fold, length, bit_and, Option, Some, None, Result, Ok, Err, if◌then◌else◌, is_some}
use Rattle.std.specs.Option.{option_map}
use Rattle.pl_base.specs.Answers.{◌>>=◌, refuse, unless, because}
use Rattle.pl_base.specs.Sums.{round_up}
use Rattle.pl_elf.specs.Headers.{segments, sections, loads, segment_of_kind}
use Rattle.pl_elf.specs.Clauses as elf
use Rattle.pl_elf.specs.declared.constants.TheConstants.{ET_EXEC, ET_DYN, PT_TLS, PT_INTERP, PAGE, RELR_SIZE}
use Rattle.pl_elf.specs.declared.header.Header.{Header}
use Rattle.pl_elf.specs.declared.segment.Segment.{Segment}
use Rattle.pl_dyn.specs.Read as dyn
use Rattle.pl_dyn.specs.declared.constants.TheConstants.{DT_SONAME, DT_SYMBOLIC, DT_FLAGS, DT_FLAGS_1, DF_SYMBOLIC, DF_1_PIE}
use Rattle.pl_dyn.specs.declared.tags.Tag.{Tag}
use Rattle.pl_dyn.specs.declared.dynamic.Dynamic.{Dynamic}
use Rattle.pl_dyn.specs.declared.fault.DynFault.{DynFault}
use Rattle.pl_dyn.specs.declared.fault.DynFault.TheVariants as dyn_fault
use Rattle.pl_sym.specs.declared.symbol.Symbol.{Symbol}
use Rattle.pl_tls.specs.declared.block.Block.{Block}
use Rattle.pl_relr.specs.Places.{unpacked}
use Rattle.pl_relr.specs.declared.fault.RelrFault.{RelrFault}
use Rattle.pl_object.specs.FilePart.{loaded, in_file_part}
use Rattle.pl_object.specs.Tables.{has_tag, value, dynamic_memory, rela_memory, jmprel_memory, sections_window, link_windows, static_windows, window_range}
use Rattle.pl_object.specs.TableClauses.{check_tables, relr_table}
use Rattle.pl_object.specs.Names.{strings, needed, symbols, versions, versioned}
use Rattle.pl_object.specs.SymbolClauses.{hash_tables, check_symbols, has_ifunc}
use Rattle.pl_object.specs.Relocations.{relocs, packed_relocs}
use Rattle.pl_object.specs.PlaceClauses.{last_load, check_relocs, misplaced_copy}
use Rattle.pl_object.specs.Refusals.{of_header, of_dynamic}
use Rattle.pl_object.specs.declared.constants.TheConstants.{ORIGINAL}
use Rattle.pl_object.specs.declared.headers.Headers.{Headers}
use Rattle.pl_object.specs.declared.layout.Layout.{Layout}
use Rattle.pl_object.specs.declared.linking.Linking.{Linking}
use Rattle.pl_elf.specs.declared.kind.Kind.{Kind}
use Rattle.pl_elf.specs.declared.kind.Kind.TheVariants.{Program, Library, Static}
use Rattle.pl_object.specs.declared.object.Object.{Object}
use Rattle.pl_object.specs.declared.reloc.Reloc.{Reloc}
use Rattle.pl_object.specs.declared.refusal.Refusal.{Refusal}
use Rattle.pl_object.specs.declared.refusal.Refusal.TheVariants.{Clause}

-- ---- 9 to 11: the dynamic table

-- the dynamic table, where it is in the file part
unfoldable pub dynamic : List ℕ → List Segment → Result Dynamic DynFault
dynamic bytes ss = if in_file_part ss (dynamic_memory ss) then dyn.read (loaded bytes ss (dynamic_memory ss)) else Err dyn_fault.NoEnd

-- ---- 30. TooLarge

unfoldable pub too_large : List ℕ → Bool
too_large bytes = nat_lt ORIGINAL (length bytes)

-- ---- 31. Pie

abbrev pub has_flag : ℕ → ℕ → List Tag → Bool
has_flag number flag tags = not (bit_and (value number tags) flag == 0)

-- a position-independent program
unfoldable pub is_pie : Header → List Segment → List Tag → Bool
is_pie h ss tags =
    h.kind == ET_DYN
    && (has_flag DT_FLAGS_1 DF_1_PIE tags || is_some (segment_of_kind PT_INTERP ss) && not (has_tag DT_SONAME tags))

-- ---- 28 to 31 in order

unfoldable pub check_rest : List ℕ → Header → List Segment → List Tag → List Symbol → List Reloc → Result (Unit {0}) Refusal
check_rest bytes h ss tags symbols rs =
    refuse (
    (has_ifunc symbols, Clause 28 0) ∷ (misplaced_copy (h.kind == ET_EXEC) rs, Clause 29 0)
    ∷ (too_large bytes, Clause 30 0) ∷ (is_pie h ss tags, Clause 31 0) ∷ [])
    (Ok tt)

-- ---- the parts of an object

abbrev pub end_in_memory : Option Segment → ℕ
end_in_memory None = 0
end_in_memory (Some s) = s.vaddr + s.memsz

-- the end of the last PT_LOAD, in whole pages
unfoldable pub span : List Segment → ℕ
span ss = round_up (end_in_memory (last_load ss)) PAGE

-- the greatest alignment of the PT_LOADs, at least a page
unfoldable pub align : List Segment → ℕ
align ss = fold (λ most s. max most s.align) PAGE (loads ss)

abbrev pub block_of : Segment → Block
block_of s = record { size = s.memsz; align = s.align }

unfoldable pub tls : List Segment → Option Block
tls ss = option_map block_of (segment_of_kind PT_TLS ss)

-- its own references search it first
unfoldable pub is_symbolic : List Tag → Bool
is_symbolic tags = has_tag DT_SYMBOLIC tags || has_flag DT_FLAGS DF_SYMBOLIC tags

abbrev pub kind_of : Header → Kind
kind_of h = if h.kind == ET_EXEC then Program else Library

-- the addresses that the packed table names, none where clause 14 refuses it
abbrev pub named_places : Result (List ℕ) RelrFault → List ℕ
named_places (Ok places) = places
named_places (Err fault) = []

unfoldable pub packed_places : List ℕ → List Segment → List Tag → List ℕ
packed_places bytes ss tags = named_places (unpacked (relr_table bytes ss tags) (length bytes / RELR_SIZE))

-- the relocations of both tables of rows, then the packed ones
unfoldable pub relocations : List ℕ → List Segment → List Tag → List Symbol → List Reloc
relocations bytes ss tags symbols =
    relocs symbols (loaded bytes ss (rela_memory tags)) ++ relocs symbols (loaded bytes ss (jmprel_memory tags))
    ++ packed_relocs bytes ss (packed_places bytes ss tags)

-- the hash tables, the relocations, and the link tables
unfoldable pub layout : List ℕ → Headers → List Tag → Linking → Layout
layout bytes f tags l = record {
  hashes = hash_tables bytes f.segments f.sections tags (length l.symbols);
  relocations = relocations bytes f.segments tags l.symbols;
  packed = length (packed_places bytes f.segments tags);
  windows = link_windows f.header f.segments f.sections tags;
}

unfoldable pub object : Headers → Dynamic → Linking → Layout → Object
object f d l places = record {
  kind = kind_of f.header;
  header = f.header;
  sections = f.sections;
  entry = f.header.entry;
  segments = f.segments;
  needed = l.needed;
  symbols = l.symbols;
  versions = l.versions;
  hashes = places.hashes;
  relocations = places.relocations;
  packed = places.packed;
  tables = map window_range places.windows;
  tls = tls f.segments;
  symbolic = is_symbolic d.tags;
  spare = d.spare;
  span = span f.segments;
  align = align f.segments;
}

unfoldable pub static_object : Headers → Object
static_object f = record {
  kind = Static;
  header = f.header;
  sections = f.sections;
  entry = f.header.entry;
  segments = f.segments;
  needed = [];
  symbols = [];
  versions = None;
  hashes = [];
  relocations = [];
  packed = 0;
  tables = map window_range (static_windows f.header f.sections);
  tls = tls f.segments;
  symbolic = false;
  spare = 0;
  span = span f.segments;
  align = align f.segments;
}

-- ---- the clauses in order

-- 15 to 18: the names of an object
unfoldable pub linking : List ℕ → Headers → List Tag → Result Linking Refusal
linking bytes f tags = do
  names ← needed tags (strings bytes f.segments tags)
  bare ← symbols bytes f.segments f.sections tags
  known ← versions bytes f.segments f.sections tags bare
  Ok (record { needed = names; symbols = versioned bare known; versions = known })

-- 20 to 31: the names and places of an object
unfoldable pub check : List ℕ → Headers → List Tag → Linking → Layout → Result (Unit {0}) Refusal
check bytes f tags l places = do
  _ ← check_symbols (f.header.kind == ET_EXEC) f.segments places.hashes l.versions l.symbols
  _ ← check_relocs (f.header.kind == ET_EXEC) f.segments (sections_window f.header ∷ places.windows) (length l.symbols) places.packed places.relocations
  check_rest bytes f.header f.segments tags l.symbols places.relocations

unfoldable pub checked : List ℕ → Headers → Dynamic → Linking → Layout → Result Object Refusal
checked bytes f d l places = check bytes f d.tags l places >>= λ _. Ok (object f d l places)

-- 12 to 31: a program or library by its dynamic table
unfoldable pub dynamic_object : List ℕ → Headers → Dynamic → Result Object Refusal
dynamic_object bytes f d = do
  _ ← check_tables bytes f.header f.segments f.sections d.tags
  l ← linking bytes f d.tags
  checked bytes f d l (layout bytes f d.tags l)

-- a static program has no dynamic table: of what follows clause 8 its size alone counts
unfoldable pub static_program : List ℕ → Headers → Result Object Refusal
static_program bytes f = unless (too_large bytes) (Clause 30 0) (Ok (static_object f))

-- 9 to 31
unfoldable pub parts : List ℕ → Headers → Result Object Refusal
parts bytes f = if elf.is_static_file bytes f.header then static_program bytes f else (because of_dynamic (dynamic bytes f.segments) >>= dynamic_object bytes f)

unfoldable pub headers : List ℕ → Header → Headers
headers bytes h = record { header = h; segments = segments bytes h; sections = sections bytes h }

-- what clauses 1 to 8 read of a file that they accept
pub record IsRead (bytes : List ℕ) (f : Headers) : Type 0 where
  pub accepted : elf.read bytes ≡ Ok f.header
  pub same : f ≡ headers bytes f.header
  pub loads : elf.AreLoads (loads f.segments)

-- 1 to 31
unfoldable pub reads : List ℕ → Result Object Refusal
reads bytes = because of_header (elf.read bytes) >>= λ h. parts bytes (headers bytes h)
