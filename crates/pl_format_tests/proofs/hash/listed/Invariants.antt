use Rattle.std.proofs.Common.{length}
use Rattle.std.specs.Prelude.{IsTrue, IfSome}
use Rattle.pl_hash.specs.ChainSymbols.{chain_symbols, is_chain_symbol, rest_from}
use Rattle.pl_format_tests.proofs.hash.listed.Given as goal

abbrev pub invariant-loop-at : goal.invariant-loop-at
invariant-loop-at l = IfSome l.at (λ index. IsTrue (is_chain_symbol l.table l.hash index))

abbrev pub decreases-loop-at : goal.decreases-loop-at
decreases-loop-at l = length (rest_from l.at (chain_symbols l.table l.hash))
