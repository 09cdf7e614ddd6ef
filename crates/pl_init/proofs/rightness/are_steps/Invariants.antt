use Rattle.std.proofs.Common.{◌≡◌, [], take, drop}
use Rattle.pl_init.specs.Flags.{AreFlags}
use Rattle.pl_init.specs.Found.{is_seen}
use Rattle.pl_init.specs.Right as spec
use Rattle.pl_init.proofs.rightness.are_steps.Given as goal

abbrev pub invariant-loop-row : goal.invariant-loop-row
invariant-loop-row l = record {
  so_far : spec.are_steps l.graph l.member (spec.rows_of (take l.row-index l.rows) l.member) (spec.rows_of (drop l.row-index l.rows) l.member) ≡ spec.are_steps l.graph l.member [] (spec.rows_of l.rows l.member);
  seen : AreFlags l.seen (is_seen l.member (spec.rows_of (take l.row-index l.rows) l.member));
}
