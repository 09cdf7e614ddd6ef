-- Rows of tables as they are read: of the dynamic table, of a table of relocations, and of a symbol table.
use Rattle.std.specs.Prelude.{◌≡◌, ℕ, ◌^◌, ◌<◌, List, map, Some, Ok}
use Rattle.std.specs.Int.{w64, cast_signed}
use Rattle.std.specs.List.{AllByRecursion, flat_map}
use Rattle.pl_base.specs.Strings.{string_at}
use Rattle.pl_dyn.specs.Entries.{entries}
use Rattle.pl_dyn.specs.declared.tags.Tag.{Tag}
use Rattle.pl_sym.specs.Table as sym
use Rattle.pl_sym.specs.declared.symbol.Symbol.{Symbol}
use Rattle.pl_ver.specs.declared.constants.TheConstants.{VER_NDX_GLOBAL}
use Rattle.pl_object.specs.Relocations.{relocs, width}
use Rattle.pl_object.specs.declared.reloc.Reloc.{Reloc}
use Rattle.pl_build.specs.declared.relocations.Rela.{Rela}
use Rattle.pl_build.specs.declared.symbol_table.SymbolEntry.{SymbolEntry}
use Rattle.pl_build.specs.Dynamic.{tag_bytes}
use Rattle.pl_build.specs.Relocations.{rela_bytes}
use Rattle.pl_build.specs.SymbolTable.{entry_bytes}

-- ---- entries of a dynamic table

pub record FitsTag (tag : Tag) : Type 0 where
  pub number : tag.number < 2 ^ 64
  pub value : tag.value < 2 ^ 64

abbrev pub EntriesAreRead : Type 0
EntriesAreRead = (rows : List Tag) → AllByRecursion FitsTag rows → entries (flat_map tag_bytes rows) ≡ rows

-- ---- relocations

pub record FitsRela (r : Rela) : Type 0 where
  pub offset : r.offset < 2 ^ 64
  pub kind : r.kind < 2 ^ 32
  pub symbol : r.symbol < 2 ^ 32
  pub addend : r.addend < 2 ^ 64

unfoldable pub reloc_of : List Symbol → Rela → Reloc
reloc_of symbols r = record {
  address = r.offset;
  kind = r.kind;
  symbol = r.symbol;
  addend = cast_signed w64 r.addend;
  width = width symbols r.kind r.symbol;
}

abbrev pub RelocsAreRead : Type 0
RelocsAreRead = (symbols : List Symbol) (rows : List Rela) → AllByRecursion FitsRela rows → relocs symbols (flat_map rela_bytes rows) ≡ map (reloc_of symbols) rows

-- ---- symbols

-- a row, and the name that stands in the strings where it says
pub record Named : Type 0 where
  pub name : List ℕ
  pub entry : SymbolEntry

pub record FitsEntry (e : SymbolEntry) : Type 0 where
  pub name : e.name < 2 ^ 32
  pub bind : e.bind < 16
  pub kind : e.kind < 16
  pub visibility : e.visibility < 4
  pub section : e.section < 2 ^ 16
  pub value : e.value < 2 ^ 64
  pub size : e.size < 2 ^ 64

pub record IsFound (strings : List ℕ) (n : Named) : Type 0 where
  pub name : string_at n.entry.name strings ≡ Some n.name
  pub fits : FitsEntry n.entry

unfoldable pub symbol_of : Named → Symbol
symbol_of n = record {
  name = n.name;
  value = n.entry.value;
  size = n.entry.size;
  bind = n.entry.bind;
  kind = n.entry.kind;
  visibility = n.entry.visibility;
  section = n.entry.section;
  version = VER_NDX_GLOBAL;
}

abbrev pub SymbolsAreRead : Type 0
SymbolsAreRead = (strings : List ℕ) (rows : List Named) → AllByRecursion (IsFound strings) rows
    → sym.symbols (flat_map entry_bytes (map (λ n. n.entry) rows)) strings ≡ Ok (map symbol_of rows)
