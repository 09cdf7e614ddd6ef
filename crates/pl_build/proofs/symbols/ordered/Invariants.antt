use Rattle.std.proofs.Common.{◌≡◌, ◌++◌, drop}
use Rattle.std.specs.List.{filter, flat_map, range_with_len}
use Rattle.pl_build.specs.Symbols.{is_in, ordered}
use Rattle.pl_build.proofs.symbols.ordered.Given as goal

abbrev pub invariant-loop-number : goal.invariant-loop-number
invariant-loop-number l = l.to ++ flat_map (λ b. filter (is_in l.settings b) l.symbols) (drop l.number (range_with_len 0 l.buckets)) ≡ ordered l.settings l.symbols
