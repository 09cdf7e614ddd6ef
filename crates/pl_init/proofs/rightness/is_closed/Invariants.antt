use Rattle.std.proofs.Common.{◌≡◌, drop}
use Rattle.std.specs.List.{list_all}
use Rattle.pl_init.specs.Right.{holds_needs, rows_of}
use Rattle.pl_init.proofs.rightness.is_closed.Given as goal

abbrev pub invariant-loop-row : goal.invariant-loop-row
invariant-loop-row l =
    list_all (λ r. holds_needs l.graph l.member (rows_of l.rows l.member) r.to) (rows_of (drop l.row-index l.rows) l.member)
    ≡ list_all (λ r. holds_needs l.graph l.member (rows_of l.rows l.member) r.to) (rows_of l.rows l.member)
