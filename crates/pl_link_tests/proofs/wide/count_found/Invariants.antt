use Rattle.std.proofs.Common.{◌≡◌}
use Rattle.pl_link_tests.proofs.wide.count_found.Given as goal

abbrev pub invariant-loop-time : goal.invariant-loop-time
invariant-loop-time l = l.kept ≡ l.fn.kept
