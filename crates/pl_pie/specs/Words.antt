-- The words of a file that move with a program's address. Those in rows of tables move with every object (pl_move); here are the others.
use Rattle.std.specs.Prelude.{ℕ, ◌+◌, ◌*◌, Bool, false, not, ◌&&◌, List, ◌++◌, map, filter, length, slice_get, Option, Some, None}
use Rattle.std.specs.List.{list_any, range_with_len}
use Rattle.pl_base.specs.Bytes.{part}
use Rattle.pl_base.specs.Windows.{Window, AllIn}
use Rattle.pl_elf.specs.Headers.{section_offset}
use Rattle.pl_elf.specs.declared.range.Range.{Range}
use Rattle.pl_sym.specs.Symbol.{is_tls}
use Rattle.pl_sym.specs.Definers.{is_canonical}
use Rattle.pl_sym.specs.declared.constants.TheConstants.{SYMBOL_SIZE}
use Rattle.pl_sym.specs.declared.symbol.Symbol.{Symbol}
use Rattle.pl_object.specs.FilePart.{file_window}
use Rattle.pl_object.specs.Named.{symbols_of}
use Rattle.pl_object.specs.PlaceClauses.{last_packed}
use Rattle.pl_object.specs.Relocations.{place}
use Rattle.pl_object.specs.TableClauses.{meets}
use Rattle.pl_object.specs.Tables.{is_allocated}
use Rattle.pl_object.specs.declared.object.Object.{Object}
use Rattle.pl_move.specs.Moves.{row_size, word_offset, moves, table_windows}
use Rattle.pl_move.specs.Objects.{symbol_rows, tables_of}
use Rattle.pl_move.specs.declared.table.Table.{Table}
use Rattle.pl_pie.specs.declared.constants.TheConstants.{ADDR_AT, VALUE_AT, TYPE_AT, TYPE_SIZE, WORD_SIZE}

-- ---- words in no row that moves with every object

abbrev pub passes : {X : Type 0} → (X → Bool) → Option X → Bool
passes p None = false
passes p (Some x) = p x

-- the indices of the elements that pass a test
abbrev pub indices : {X : Type 0} → (X → Bool) → List X → List ℕ
indices p xs = filter (λ i. passes p (slice_get xs i)) (range_with_len 0 (length xs))

-- the addresses of the sections that have one, in the file's own section header table
unfoldable pub section_words : Object → List ℕ
section_words o = map (λ i. section_offset o.header i + ADDR_AT) (indices is_allocated o.sections)

-- an undefined symbol that is not local has a value other than 0, which is no offset in a TLS block: the canonical address of a function
unfoldable pub is_address : Symbol → Bool
is_address s = not (is_tls s) && is_canonical s

-- the values of these symbols, in the dynamic symbol table
unfoldable pub undefined_words : Object → List ℕ
undefined_words o = map (λ i. (symbols_of o).at + SYMBOL_SIZE * i + VALUE_AT) (indices is_address o.symbols)

-- the words at the packed places
unfoldable pub packed_words : Object → List ℕ
packed_words o = map (λ r. (file_window o.segments (place r)).at) (last_packed o.packed o.relocations)

unfoldable pub other_words : Object → List ℕ
other_words o = section_words o ++ undefined_words o ++ packed_words o

-- ---- what is written where a program is fixed

abbrev pub word_window : ℕ → Window
word_window at = record { at = at; size = WORD_SIZE }

abbrev pub type_window : Window
type_window = record { at = TYPE_AT; size = TYPE_SIZE }

-- where the row of an index begins
abbrev pub row_start : Table → ℕ → ℕ
row_start t index = t.at + row_size t.kind * index

-- the row of an index has a word that moves, and that shares a byte with one of the windows
unfoldable pub row_meets : List Window → List ℕ → Table → ℕ → Bool
row_meets ws bytes t index =
    moves t.kind (part (row_start t index) (row_size t.kind) bytes) && meets ws (word_window (row_start t index + word_offset t.kind))

unfoldable pub table_meets : List Window → List ℕ → Table → Bool
table_meets ws bytes t = list_any (row_meets ws bytes t) (range_with_len 0 t.count)

-- so does the table of a SYMTAB section
abbrev pub symtab_meets : List Window → List ℕ → Range → Bool
symtab_meets ws bytes range = table_meets ws bytes (symbol_rows range)

-- the tables of SYMTAB sections lie in so many bytes
abbrev pub SymtabsLieIn : ℕ → List Range → Type 0
SymtabsLieIn size ranges = AllIn size (table_windows (map symbol_rows ranges))

unfoldable pub tables_meet : List Window → List ℕ → Object → Bool
tables_meet ws bytes o = list_any (table_meets ws bytes) (tables_of o)

unfoldable pub others_meet : List Window → Object → Bool
others_meet ws o = list_any (λ at. meets ws (word_window at)) (other_words o)
