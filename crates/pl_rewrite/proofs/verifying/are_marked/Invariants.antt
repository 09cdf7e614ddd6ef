use Rattle.std.proofs.Common.{◌≡◌, drop}
use Rattle.std.specs.List.{list_all}
use Rattle.pl_rewrite.specs.Verify.{are_marked, is_marked_at}
use Rattle.pl_rewrite.proofs.verifying.are_marked.Given as goal

abbrev pub invariant-loop-row : goal.invariant-loop-row
invariant-loop-row l = list_all (is_marked_at l.files) (drop l.row-index l.walk) ≡ are_marked l.files l.walk
