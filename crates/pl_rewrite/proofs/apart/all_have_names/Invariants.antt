use Rattle.std.proofs.Common.{◌≡◌, drop}
use Rattle.std.specs.List.{list_all}
use Rattle.pl_rewrite.specs.Rows.{is_named_well}
use Rattle.pl_rewrite.proofs.apart.all_have_names.Given as goal

abbrev pub invariant-loop-row : goal.invariant-loop-row
invariant-loop-row l = list_all (is_named_well l.numbered) (drop l.row-index l.others) ≡ list_all (is_named_well l.numbered) l.others
