use Rattle.std.proofs.Common.{◌/◌, length}
use Rattle.pl_base.proofs.EachLaws.{SoFar}
use Rattle.pl_sym.specs.Table as spec
use Rattle.pl_sym.specs.declared.constants.TheConstants.{SYMBOL_SIZE}
use Rattle.pl_sym.proofs.table.read_symbols.Given as goal

abbrev pub invariant-loop-index : goal.invariant-loop-index
invariant-loop-index l = SoFar (spec.symbol l.table l.strings) (length l.table / SYMBOL_SIZE) l.index l.symbols (spec.symbols l.table l.strings)
