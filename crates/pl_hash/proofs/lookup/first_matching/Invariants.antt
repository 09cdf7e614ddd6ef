use Rattle.std.proofs.Common.{◌≡◌, slice_get}
use Rattle.std.specs.Prelude.{IsSome}
use Rattle.pl_hash.specs.Chain.{chain}
use Rattle.pl_hash.specs.ChainSymbols.{matching}
use Rattle.pl_hash.proofs.ChainSymbolLaws.{left}
use Rattle.pl_hash.proofs.lookup.first_matching.Given as goal

abbrev pub invariant-loop-at : goal.invariant-loop-at
invariant-loop-at l = (IsSome (chain l.table l.at)) × (slice_get (matching l.table l.hash l.at) 0 ≡ slice_get (matching l.table l.hash l.fn.start) 0)

abbrev pub decreases-loop-at : goal.decreases-loop-at
decreases-loop-at l = left l.table l.at
