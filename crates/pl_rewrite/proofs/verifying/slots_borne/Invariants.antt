use Rattle.std.proofs.Common.{◌≡◌, map, take}
use Rattle.pl_rewrite.specs.Verify.{slot_borne}
use Rattle.pl_rewrite.proofs.verifying.slots_borne.Given as goal

abbrev pub invariant-loop-taken : goal.invariant-loop-taken
invariant-loop-taken l = l.slots ≡ map slot_borne (take l.taken-index l.files)
