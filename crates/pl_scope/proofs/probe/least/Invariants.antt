use Rattle.std.proofs.Common.{◌≡◌, None, length}
use Rattle.std.specs.Prelude.{IsTrue, IfSome}
use Rattle.pl_hash.specs.ChainSymbols.{is_chain_symbol, rest_from}
use Rattle.pl_scope.specs.Probing as spec
use Rattle.pl_scope.proofs.probe.least.Given as goal

-- what is left of the candidates gives, after those before, the least of all
abbrev pub invariant-loop-at : goal.invariant-loop-at
invariant-loop-at l = record {
  given : IfSome l.at (λ index. IsTrue (is_chain_symbol l.probe.table.now l.probe.hash index));
  left : spec.least_from (spec.picks l.probe l.pick) l.least (rest_from l.at (spec.led_to l.probe)) ≡ spec.least_from (spec.picks l.probe l.pick) None (spec.led_to l.probe);
}

abbrev pub decreases-loop-at : goal.decreases-loop-at
decreases-loop-at l = length (rest_from l.at (spec.led_to l.probe))
