-- A symbol of which only the names are said.
use Rattle.std.specs.Prelude.{ℕ, false, List}
use Rattle.pl_build.specs.declared.line.SymbolLine.{SymbolLine}

abbrev pub named_symbol : List ℕ → List ℕ → List ℕ → List ℕ → SymbolLine
named_symbol written name version file = record {
  defined = false;
  written = written;
  name = name;
  version = version;
  default_version = false;
  file = file;
  bind = 0;
  kind = 0;
  visibility = 0;
  placed = false;
  offset = 0;
  size = 0;
}
