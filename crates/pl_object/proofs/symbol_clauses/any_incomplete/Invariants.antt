use Rattle.std.proofs.Common.{◌≡◌, take, false}
use Rattle.std.specs.List.{list_any}
use Rattle.pl_object.specs.SymbolClauses.{is_incomplete}
use Rattle.pl_object.proofs.symbol_clauses.any_incomplete.Given as goal

abbrev pub invariant-loop-table : goal.invariant-loop-table
invariant-loop-table l = list_any (is_incomplete l.symbols) (take l.table-index l.tables) ≡ false
