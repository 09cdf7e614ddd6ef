-- A program that is fixed at an address: what the object becomes, and what is asked of a program and of its two files. `Loaded at an address` is said of a program whose address 0 is there (System V gABI chapter 5, "Program Loading"; x86-64 psABI, "Relocation Types", B).
use Rattle.std.specs.Prelude.{◌≡◌, ℕ, ℤ, ◌+◌, ◌<◌, Bool, true, false, not, ◌&&◌, ◌||◌, ◌==◌, List, map, length, bit_and, slice_get, slice_index, Some, if◌then◌else◌}
use Rattle.std.specs.List.{All, list_any}
use Rattle.std.specs.Int.{w64, cast_unsigned, cast_signed}
use Rattle.pl_base.specs.Memory.{is_within}
use Rattle.pl_base.specs.Sums.{plus}
use Rattle.pl_elf.specs.Headers.{is_moved_kind, loads}
use Rattle.pl_elf.specs.Ranges.{has}
use Rattle.pl_elf.specs.declared.constants.TheConstants.{R_X86_64_NONE, R_X86_64_COPY, R_X86_64_RELATIVE, SHF_ALLOC}
use Rattle.pl_elf.specs.declared.header.Header.{Header}
use Rattle.pl_elf.specs.declared.section.Section.{Section}
use Rattle.pl_elf.specs.declared.segment.Segment.{Segment}
use Rattle.pl_sym.specs.Symbol.{is_absolute, is_in_section, is_tls}
use Rattle.pl_sym.specs.Definers.{is_linkable, has_value, is_canonical}
use Rattle.pl_sym.specs.declared.symbol.Symbol.{Symbol}
use Rattle.pl_object.specs.declared.object.Object.{Object}
use Rattle.pl_object.specs.declared.reloc.Reloc.{Reloc}
use Rattle.pl_scope.specs.Finds.{binds_itself}

-- ---- the object

-- an address that is there; 0 stands for none
unfoldable pub fixed_entry : ℕ → ℕ → ℕ
fixed_entry at entry = if entry == 0 then 0 else plus entry at

unfoldable pub fixed_header : ℕ → Header → Header
fixed_header at h = record {
  ident = h.ident;
  kind = h.kind;
  machine = h.machine;
  version = h.version;
  entry = fixed_entry at h.entry;
  phoff = h.phoff;
  shoff = h.shoff;
  flags = h.flags;
  ehsize = h.ehsize;
  phentsize = h.phentsize;
  phnum = h.phnum;
  shentsize = h.shentsize;
  shnum = h.shnum;
  shstrndx = h.shstrndx;
}

-- a section that has an address
unfoldable pub fixed_section : ℕ → Section → Section
fixed_section at s = record {
  name = s.name;
  kind = s.kind;
  flags = s.flags;
  addr = if bit_and s.flags SHF_ALLOC == 0 then s.addr else plus s.addr at;
  offset = s.offset;
  size = s.size;
  link = s.link;
  info = s.info;
  addralign = s.addralign;
  entsize = s.entsize;
}

-- a segment of a kind that moves with the program, as a PT_LOAD does
unfoldable pub fixed_segment : ℕ → Segment → Segment
fixed_segment at s = record {
  kind = s.kind;
  flags = s.flags;
  offset = s.offset;
  vaddr = if is_moved_kind s.kind then plus s.vaddr at else s.vaddr;
  paddr = if is_moved_kind s.kind then plus s.paddr at else s.paddr;
  filesz = s.filesz;
  memsz = s.memsz;
  align = s.align;
}

-- a value that moves: that of a symbol in a section, or the canonical address of a function; no offset in a TLS block
unfoldable pub moves : Symbol → Bool
moves s = not (is_tls s) && (is_in_section s || is_canonical s)

abbrev pub with_value : ℕ → Symbol → Symbol
with_value value s = record {
  name = s.name;
  value = value;
  size = s.size;
  bind = s.bind;
  kind = s.kind;
  visibility = s.visibility;
  section = s.section;
  version = s.version;
}

unfoldable pub fixed_symbol : ℕ → Symbol → Symbol
fixed_symbol at s = if moves s then with_value (plus s.value at) s else s

abbrev pub moved_addend : ℕ → ℤ → ℤ
moved_addend at addend = cast_signed w64 (plus (cast_unsigned w64 addend) at)

-- the place of a relocation moves unless it is a NONE, which has none; the addend of a RELATIVE moves. That of a packed one is the word at its place
unfoldable pub fixed_reloc : ℕ → Reloc → Reloc
fixed_reloc at r = record {
  address = if r.kind == R_X86_64_NONE then r.address else plus r.address at;
  kind = r.kind;
  symbol = r.symbol;
  addend = if r.kind == R_X86_64_RELATIVE then moved_addend at r.addend else r.addend;
  width = r.width;
}

-- the object of a program fixed at an address; names, versions, hash tables and the places of the link tables in the file stay
unfoldable pub fixed : ℕ → Object → Object
fixed at o = record {
  kind = o.kind;
  header = fixed_header at o.header;
  sections = map (fixed_section at) o.sections;
  entry = fixed_entry at o.entry;
  segments = map (fixed_segment at) o.segments;
  needed = o.needed;
  symbols = map (fixed_symbol at) o.symbols;
  versions = o.versions;
  hashes = o.hashes;
  relocations = map (fixed_reloc at) o.relocations;
  packed = o.packed;
  tables = o.tables;
  tls = o.tls;
  symbolic = o.symbolic;
  spare = o.spare;
  span = o.span + at;
  align = o.align;
}

-- ---- what is asked of a program

-- its value is not 0, unless it is no definer at all; and it does not become 0
pub record KeepsItsKind (at : ℕ) (s : Symbol) : Type 0 where
  pub linked : is_linkable s ≡ true → has_value s ≡ true
  pub there : moves s ≡ true → s.value == 0 ≡ false → plus s.value at == 0 ≡ false

-- a symbol of a relocation that binds to itself moves with its section, or is a number; and nothing is copied from it
pub record RefersWell (symbols : List Symbol) (r : Reloc) : Type 0 where
  pub own : (s : Symbol) → slice_get symbols r.symbol ≡ Some s → r.symbol == 0 ≡ false → binds_itself s ≡ true → (is_absolute s || is_in_section s) ≡ true
  pub elsewhere : (s : Symbol) → slice_get symbols r.symbol ≡ Some s → r.kind == R_X86_64_COPY ≡ true → binds_itself s ≡ false

pub record IsMovable (at : ℕ) (o : Object) : Type 0 where
  pub symbols : All (KeepsItsKind at) o.symbols
  pub relocations : All (RefersWell o.symbols) o.relocations

-- ---- what is asked of the two files

-- the eight bytes of a place of kind RELATIVE, a packed one among them, have the address
abbrev pub is_relative_at : ℕ → Reloc → Bool
is_relative_at address r = r.kind == R_X86_64_RELATIVE && is_within r.address 8 address

-- the file bytes of a segment are the same, but in the link tables and under RELATIVE relocations
abbrev pub KeepsBytes : Object → List ℕ → List ℕ → Segment → Type 0
KeepsBytes o bytes file s = (k : ℕ) → k < s.filesz → list_any (has (s.offset + k)) o.tables ≡ false → list_any (is_relative_at (s.vaddr + k)) o.relocations ≡ false
    → slice_index file (s.offset + k) ≡ slice_index bytes (s.offset + k)

pub record IsFixedFile (o : Object) (bytes file : List ℕ) : Type 0 where
  pub size : length file ≡ length bytes
  pub same : All (KeepsBytes o bytes file) (loads o.segments)
