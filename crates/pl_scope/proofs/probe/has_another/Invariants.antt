use Rattle.std.proofs.Common.{◌≡◌, length}
use Rattle.std.specs.Prelude.{IsTrue, IfSome}
use Rattle.pl_hash.specs.ChainSymbols.{is_chain_symbol, rest_from}
use Rattle.pl_scope.specs.Probing as spec
use Rattle.pl_scope.proofs.probe.has_another.Given as goal

-- another one is among what is left of the candidates where one is among all
abbrev pub invariant-loop-at : goal.invariant-loop-at
invariant-loop-at l = record {
  given : IfSome l.at (λ index. IsTrue (is_chain_symbol l.probe.table.now l.probe.hash index));
  left : spec.another (spec.picks l.probe l.pick) l.index (rest_from l.at (spec.led_to l.probe)) ≡ spec.another (spec.picks l.probe l.pick) l.index (spec.led_to l.probe);
}

abbrev pub decreases-loop-at : goal.decreases-loop-at
decreases-loop-at l = length (rest_from l.at (spec.led_to l.probe))
