use Rattle.std.proofs.Common.{◌≡◌, ℕ, take}
use Rattle.pl_scope.specs.VersionIndex.{first_named, name_under}
use Rattle.pl_scope.proofs.version_index.versions_of.Given as goal

abbrev pub invariant-loop-row : goal.invariant-loop-row
invariant-loop-row l = (number : ℕ) → name_under l.index number ≡ first_named (take l.row-index l.row-items) number
