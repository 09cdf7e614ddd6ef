use Rattle.std.proofs.Common.{◌≡◌, ◌<◌, length, drop}
use Rattle.std.specs.Prelude.{fold}
use Rattle.std.specs.List.{All}
use Rattle.pl_init.specs.Flags.{AreFlags}
use Rattle.pl_init.specs.Found.{found, found_by, is_seen}
use Rattle.pl_init.proofs.reaching.add_needed.Given as goal

abbrev pub invariant-loop-to : goal.invariant-loop-to
invariant-loop-to l = record {
  so_far : fold (found l.from l.via) l.rows (drop l.to-index l.to-items) ≡ found_by l.graph l.from l.fn.rows l.via;
  seen : AreFlags l.seen (is_seen l.from l.rows);
  within : All (λ r. r.to < length l.graph) l.rows;
}
