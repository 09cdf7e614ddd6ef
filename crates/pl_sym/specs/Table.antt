-- The symbols of a symbol table (gABI chapter 4, "Symbol Table").
use Rattle.std.specs.Prelude.{ℕ, ◌+◌, ◌*◌, ◌/◌, ◌%◌, Bool, true, false, List, length, Option, Some, None, Result, Ok, Err}
use Rattle.std.specs.List.{range_with_len}
use Rattle.pl_base.specs.Bytes.{byte, word16, word32, word64}
use Rattle.pl_base.specs.Each.{each}
use Rattle.pl_base.specs.Strings.{string_at}
use Rattle.pl_sym.specs.declared.constants.TheConstants.{SYMBOL_SIZE}
use Rattle.pl_ver.specs.declared.constants.TheConstants.{VER_NDX_GLOBAL}
use Rattle.pl_sym.specs.declared.symbol.Symbol.{Symbol}
use Rattle.pl_sym.specs.declared.fault.SymFault.{SymFault}
use Rattle.pl_sym.specs.declared.fault.SymFault.TheVariants.{BadSymbol, NoMemory}

abbrev pub is_memory : SymFault → Bool
is_memory NoMemory = true
is_memory BadSymbol = false

-- the symbol whose row begins at an offset, under its name; without a name there is none. A row has its name's offset
-- (32 bits) at 0, info at 4 (the binding in its high four bits, the type in the low four), other at 5 (the visibility in
-- its low two bits), the section's index (16 bits) at 6, the value (64 bits) at 8, the size (64 bits) at 16
abbrev pub named : List ℕ → ℕ → Option (List ℕ) → Result Symbol SymFault
named table at None = Err BadSymbol
named table at (Some name) = Ok (record {
  name = name;
  value = word64 (at + 8) table;
  size = word64 (at + 16) table;
  bind = byte (at + 4) table / 16;
  kind = byte (at + 4) table % 16;
  visibility = byte (at + 5) table % 4;
  section = word16 (at + 6) table;
  version = VER_NDX_GLOBAL;
})

-- the symbol whose row begins at an offset
unfoldable pub symbol_at : List ℕ → List ℕ → ℕ → Result Symbol SymFault
symbol_at table strings at = named table at (string_at (word32 at table) strings)

abbrev pub symbol : List ℕ → List ℕ → ℕ → Result Symbol SymFault
symbol table strings index = symbol_at table strings (SYMBOL_SIZE * index)

-- a symbol for each whole row of the table
unfoldable pub symbols : List ℕ → List ℕ → Result (List Symbol) SymFault
symbols table strings = each (symbol table strings) (range_with_len 0 (length table / SYMBOL_SIZE))
