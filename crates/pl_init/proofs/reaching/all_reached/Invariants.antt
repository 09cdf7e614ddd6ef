use Rattle.std.proofs.Common.{◌≡◌}
use Rattle.std.specs.List.{flat_map, range_with_len}
use Rattle.pl_init.specs.Found.{reached}
use Rattle.pl_init.proofs.reaching.all_reached.Given as goal

abbrev pub invariant-loop-from : goal.invariant-loop-from
invariant-loop-from l = l.rows ≡ flat_map (reached l.graph) (range_with_len 0 l.from)
