use Rattle.std.proofs.Common.{◌≡◌, ◌-◌, ◌<◌, length}
use Rattle.std.specs.List.{All}
use Rattle.pl_init.specs.Flags.{AreFlags}
use Rattle.pl_init.specs.Found.{spread, reached, is_seen}
use Rattle.pl_init.proofs.reaching.reached.Given as goal

abbrev pub invariant-loop-next : goal.invariant-loop-next
invariant-loop-next l = record {
  so_far : spread l.graph l.from (length l.graph - l.next) l.next l.rows ≡ reached l.graph l.from;
  seen : AreFlags l.seen (is_seen l.from l.rows);
  within : All (λ r. r.to < length l.graph) l.rows;
}
