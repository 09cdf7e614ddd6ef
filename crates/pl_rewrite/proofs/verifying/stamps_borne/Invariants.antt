use Rattle.std.proofs.Common.{◌≡◌, map, take}
use Rattle.pl_cone.specs.Currency.{old_stamp}
use Rattle.pl_rewrite.proofs.verifying.stamps_borne.Given as goal

abbrev pub invariant-loop-taken : goal.invariant-loop-taken
invariant-loop-taken l = l.stamps ≡ map old_stamp (take l.taken-index l.files)
