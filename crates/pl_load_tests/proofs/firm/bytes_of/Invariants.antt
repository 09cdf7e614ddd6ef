use Rattle.std.proofs.Common.{◌≡◌, length}
use Rattle.pl_load_tests.proofs.firm.bytes_of.Given as goal

abbrev pub invariant-loop-index : goal.invariant-loop-index
invariant-loop-index l = length l.bytes.items ≡ l.index
