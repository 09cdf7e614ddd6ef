-- The link tables of an object that has a dynamic table, by their names. Each is a window of the file.
use Rattle.std.specs.Prelude.{ℕ, ◌-◌, List, drop, slice_get, Option, Some, None}
use Rattle.pl_base.specs.Windows.{Window}
use Rattle.pl_elf.specs.declared.range.Range.{Range}
use Rattle.pl_object.specs.FilePart.{nothing}
use Rattle.pl_object.specs.declared.constants.TheConstants.{DYNAMIC_TABLE, SYMBOLS_TABLE, STRINGS_TABLE, RELA_TABLE, JMPREL_TABLE, PACKED_TABLE, FIRST_SYMTAB}
use Rattle.pl_object.specs.declared.object.Object.{Object}

-- a link table as a window of the file
abbrev pub range_window : Range → Window
range_window range = record { at = range.start; size = range.end - range.start }

abbrev pub window_in : Option Range → Window
window_in None = nothing
window_in (Some range) = range_window range

-- the link table at an index
abbrev pub table_at : ℕ → Object → Window
table_at index o = window_in (slice_get o.tables index)

unfoldable pub dynamic_of : Object → Window
dynamic_of o = table_at DYNAMIC_TABLE o

unfoldable pub symbols_of : Object → Window
symbols_of o = table_at SYMBOLS_TABLE o

unfoldable pub strings_of : Object → Window
strings_of o = table_at STRINGS_TABLE o

unfoldable pub rela_of : Object → Window
rela_of o = table_at RELA_TABLE o

unfoldable pub jmprel_of : Object → Window
jmprel_of o = table_at JMPREL_TABLE o

unfoldable pub packed_of : Object → Window
packed_of o = table_at PACKED_TABLE o

-- each SYMTAB section, in the order of the section header table
unfoldable pub symtabs_of : Object → List Range
symtabs_of o = drop FIRST_SYMTAB o.tables
