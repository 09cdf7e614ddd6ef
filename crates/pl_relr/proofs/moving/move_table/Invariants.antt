use Rattle.std.proofs.Common.{◌≡◌}
use Rattle.pl_base.specs.Bytes.{IsBytes}
use Rattle.pl_relr.proofs.MoveLaws.{part_moved}
use Rattle.pl_relr.proofs.moving.move_table.Given as goal

abbrev pub invariant-loop-index : goal.invariant-loop-index
invariant-loop-index l = record {
  done : l.table ≡ part_moved l.slot l.fn.table l.index;
  bytes : IsBytes l.fn.table;
}
