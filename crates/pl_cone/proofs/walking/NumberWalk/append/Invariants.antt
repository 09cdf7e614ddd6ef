use Rattle.std.proofs.Common.{◌≡◌, drop}
use Rattle.pl_base.specs.Each.{run}
use Rattle.pl_cone.specs.Needs.{IsMore, IsNumberWalk, added, walk_names}
use Rattle.pl_cone.proofs.walking.NumberWalk.append.Given as goal

abbrev pub invariant-loop-number : goal.invariant-loop-number
invariant-loop-number l = record {
  walking : IsNumberWalk l.needs l.self;
  more : IsMore l.fn.self l.self;
  so_far : run (added l.needs) (walk_names l.needs l.self) (drop l.number-index l.needed) ≡ run (added l.needs) (walk_names l.needs l.fn.self) l.needed;
}
