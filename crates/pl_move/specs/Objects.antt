-- The tables of an accepted object whose words move with its address.
use Rattle.std.specs.Prelude.{◌≡◌, ℕ, ◌/◌, false, ◌==◌, List, [], ◌∷◌, ◌++◌, map, length, if◌then◌else◌}
use Rattle.pl_base.specs.Windows.{Window, AllIn}
use Rattle.pl_elf.specs.Kinds.{is_static}
use Rattle.pl_elf.specs.declared.range.Range.{Range}
use Rattle.pl_object.specs.Accepted.{Accepted}
use Rattle.pl_object.specs.Named.{range_window, dynamic_of, symbols_of, rela_of, jmprel_of, packed_of, symtabs_of}
use Rattle.pl_object.specs.declared.object.Object.{Object}
use Rattle.pl_move.specs.Moves.{row_size, table_windows}
use Rattle.pl_move.specs.declared.kind.RowKind.{RowKind}
use Rattle.pl_move.specs.declared.kind.RowKind.TheVariants.{Entry, SegmentAddress, PhysicalAddress, TagValue, SymbolValue, RelocationPlace, RelativeAddend, PackedAddress}
use Rattle.pl_move.specs.declared.table.Table.{Table}

-- the whole rows of a window
abbrev pub rows_of : RowKind → Window → Table
rows_of kind w = record { kind = kind; at = w.at; count = w.size / row_size kind }

abbrev pub symbol_rows : Range → Table
symbol_rows range = rows_of SymbolValue (range_window range)

-- the header, where there is an entry, the program headers, the dynamic table, the symbols and the relocations
unfoldable pub main_tables : Object → List Table
main_tables o =
    record { kind = Entry; at = 0; count = if o.entry == 0 then 0 else 1 }
    ∷ record { kind = SegmentAddress; at = o.header.phoff; count = o.header.phnum }
    ∷ record { kind = PhysicalAddress; at = o.header.phoff; count = o.header.phnum }
    ∷ rows_of TagValue (dynamic_of o) ∷ rows_of SymbolValue (symbols_of o)
    ∷ rows_of RelocationPlace (rela_of o) ∷ rows_of RelativeAddend (rela_of o)
    ∷ rows_of RelocationPlace (jmprel_of o) ∷ rows_of RelativeAddend (jmprel_of o)
    ∷ rows_of PackedAddress (packed_of o) ∷ []

-- and the SYMTAB sections
unfoldable pub tables_of : Object → List Table
tables_of o = main_tables o ++ map symbol_rows (symtabs_of o)

-- the tables lie in so many bytes
abbrev pub LieIn : ℕ → Object → Type 0
LieIn size o = AllIn size (table_windows (tables_of o))

-- the tables of an accepted object lie in its file
abbrev pub TablesLieInTheFile : Type 0
TablesLieInTheFile = (bytes : List ℕ) (o : Object) → Accepted bytes o → is_static o.kind ≡ false → LieIn (length bytes) o
