use Rattle.std.proofs.Common.{◌≡◌, take}
use Rattle.std.specs.List.{count_by}
use Rattle.pl_texts.specs.Reports.{is_prelinked}
use Rattle.pl_texts.proofs.report.count_prelinked.Given as goal

abbrev pub invariant-loop-row : goal.invariant-loop-row
invariant-loop-row l = l.count ≡ count_by is_prelinked (take l.row-index l.rows)
