use Rattle.std.proofs.Common.{◌≡◌, take}
use Rattle.pl_conflict.specs.Conflicts as spec
use Rattle.pl_conflict.proofs.rows.rows_of.Given as goal

abbrev pub invariant-loop-meaning : goal.invariant-loop-meaning
invariant-loop-meaning l = l.rows.items ≡ spec.rows_of l.files (take l.meaning-index l.meanings)
