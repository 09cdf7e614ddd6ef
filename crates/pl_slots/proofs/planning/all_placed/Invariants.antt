use Rattle.std.proofs.Common.{◌≡◌, [], drop}
use Rattle.pl_base.specs.Each.{run}
use Rattle.pl_slots.specs.Plan.{next, kept_holes}
use Rattle.pl_slots.proofs.planning.all_placed.Given as goal

abbrev pub invariant-loop-want : goal.invariant-loop-want
invariant-loop-want l = run (next l.kept l.region) l.planned (drop l.want-index l.wants) ≡ run (next l.kept l.region) (record { rows = []; holes = kept_holes l.kept l.region l.wants }) l.wants
