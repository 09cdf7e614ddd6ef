-- The relocations of an object, and the places in memory that they change (x86-64 psABI, "Relocation").
-- A row has the place's address (64 bits) at 0, the kind (32 bits) at 8, the symbol's index (32 bits) at 12, and the signed addend (64 bits) at 16.
use Rattle.std.specs.Prelude.{ℕ, ◌+◌, ◌*◌, ◌/◌, ◌==◌, List, map, length, slice_get, Option, Some, None, if◌then◌else◌}
use Rattle.std.specs.List.{range_with_len}
use Rattle.std.specs.Int.{w64, cast_signed}
use Rattle.pl_base.specs.Bytes.{word32, word64}
use Rattle.pl_base.specs.Windows.{Window}
use Rattle.pl_sym.specs.declared.symbol.Symbol.{Symbol}
use Rattle.pl_sym.specs.declared.constants.TheConstants.{SYMBOL_SIZE}
use Rattle.pl_elf.specs.declared.segment.Segment.{Segment}
use Rattle.pl_elf.specs.declared.constants.TheConstants.{RELA_SIZE, WORD64_SIZE, R_X86_64_NONE, R_X86_64_COPY, R_X86_64_RELATIVE}
use Rattle.pl_object.specs.FilePart.{loaded}
use Rattle.pl_object.specs.declared.reloc.Reloc.{Reloc}

abbrev pub size_of : Option Symbol → ℕ
size_of None = 0
size_of (Some s) = s.size

-- how many bytes a relocation changes
unfoldable pub width : List Symbol → ℕ → ℕ → ℕ
width symbols kind symbol =
    if kind == R_X86_64_NONE then 0 else (if kind == R_X86_64_COPY then size_of (slice_get symbols symbol) else WORD64_SIZE)

-- the same by the bytes of the symbol table, where the size of a symbol stands at 16 of its 24 bytes
unfoldable pub raw_width : List ℕ → ℕ → ℕ → ℕ
raw_width table kind symbol =
    if kind == R_X86_64_NONE then 0 else (if kind == R_X86_64_COPY then word64 (SYMBOL_SIZE * symbol + 16) table else WORD64_SIZE)

-- the relocation whose row begins at an offset
unfoldable pub reloc_at : List Symbol → List ℕ → ℕ → Reloc
reloc_at symbols table at = record {
  address = word64 at table;
  kind = word32 (at + 8) table;
  symbol = word32 (at + 12) table;
  addend = cast_signed w64 (word64 (at + 16) table);
  width = width symbols (word32 (at + 8) table) (word32 (at + 12) table);
}

abbrev pub reloc : List Symbol → List ℕ → ℕ → Reloc
reloc symbols table index = reloc_at symbols table (RELA_SIZE * index)

-- a relocation for each whole row of a table
unfoldable pub relocs : List Symbol → List ℕ → List Reloc
relocs symbols table = map (reloc symbols table) (range_with_len 0 (length table / RELA_SIZE))

-- ---- packed relocations

-- the word that stands in the file at an address; 0 where its bytes are not all in the file part
abbrev pub word_of : List ℕ → ℕ
word_of bytes = if length bytes == WORD64_SIZE then word64 0 bytes else 0

unfoldable pub file_word : List ℕ → List Segment → ℕ → ℕ
file_word bytes ss address = word_of (loaded bytes ss (record { at = address; size = WORD64_SIZE }))

-- the relocation of a packed place
abbrev pub packed_reloc : List ℕ → List Segment → ℕ → Reloc
packed_reloc bytes ss address = record {
  address = address;
  kind = R_X86_64_RELATIVE;
  symbol = 0;
  addend = cast_signed w64 (file_word bytes ss address);
  width = WORD64_SIZE;
}

-- those of packed places, in their order
unfoldable pub packed_relocs : List ℕ → List Segment → List ℕ → List Reloc
packed_relocs bytes ss addresses = map (packed_reloc bytes ss) addresses

-- ---- places

-- the place of a relocation in memory
abbrev pub place : Reloc → Window
place r = record { at = r.address; size = r.width }

abbrev pub places : List Reloc → List Window
places rs = map place rs
