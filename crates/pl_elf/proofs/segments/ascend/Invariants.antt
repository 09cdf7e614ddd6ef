use Rattle.std.proofs.Common.{◌≡◌, drop}
use Rattle.pl_elf.specs.Headers.{loads, segments}
use Rattle.pl_elf.specs.Clauses.{ascend_from}
use Rattle.pl_elf.proofs.segments.ascend.Given as goal

abbrev pub invariant-loop-index : goal.invariant-loop-index
invariant-loop-index l = ascend_from l.address (loads (drop l.index (segments l.bytes l.header))) ≡ ascend_from 0 (loads (segments l.bytes l.header))
