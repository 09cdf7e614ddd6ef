use Rattle.std.proofs.Common.{◌≡◌, true, take}
use Rattle.std.specs.List.{list_all}
use Rattle.pl_rewrite.specs.Rows.{has_numbers}
use Rattle.pl_rewrite.proofs.apart.all_have_numbers.Given as goal

abbrev pub invariant-loop-member : goal.invariant-loop-member
invariant-loop-member l = list_all (has_numbers l.numbered) (take l.member-index l.walk) ≡ true
