use Rattle.std.proofs.Common.{◌≡◌, drop}
use Rattle.std.specs.List.{fold}
use Rattle.pl_build.specs.StringTable.{symbol_added, symbols_added}
use Rattle.pl_build.proofs.string_table.add_symbols.Given as goal

abbrev pub invariant-loop-symbol : goal.invariant-loop-symbol
invariant-loop-symbol l = fold symbol_added l.strings (drop l.symbol-index l.symbols) ≡ symbols_added l.fn.strings l.symbols
