use Rattle.std.proofs.Common.{◌≡◌, ◌≤◌, ◌++◌, drop, length}
use Rattle.pl_relr.specs.Entries.{entries}
use Rattle.pl_relr.specs.Places.{places_from, places}
use Rattle.pl_relr.proofs.unpacking.unpack.Given as goal

abbrev pub invariant-loop-index : goal.invariant-loop-index
invariant-loop-index l = record {
  done : l.places.items ++ places_from l.next (drop l.index (entries l.table)) ≡ places l.table;
  few : length l.places.items ≤ l.most;
}
