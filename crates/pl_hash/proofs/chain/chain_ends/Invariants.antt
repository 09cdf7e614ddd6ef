use Rattle.std.proofs.Common.{◌≡◌, ◌-◌}
use Rattle.pl_hash.proofs.ChainLaws.{ends_within}
use Rattle.pl_hash.proofs.chain.chain_ends.Given as goal

abbrev pub invariant-loop : goal.invariant-loop
invariant-loop l = ends_within l.table (l.table.symbols - l.counter) l.at ≡ ends_within l.table l.table.symbols l.fn.start
