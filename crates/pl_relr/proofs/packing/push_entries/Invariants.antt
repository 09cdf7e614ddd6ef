use Rattle.std.proofs.Common.{◌≡◌, ◌≤◌, ◌<◌, ◌^◌, ◌++◌, ◌-◌, drop, length}
use Rattle.pl_relr.specs.Entries.{table_of}
use Rattle.pl_relr.specs.Pack.{packed_from}
use Rattle.pl_relr.proofs.packing.push_entries.Given as goal

abbrev pub invariant-loop-at : goal.invariant-loop-at
invariant-loop-at l = record {
  done : l.table.items ++ table_of (packed_from l.next 0 (drop l.at l.places)) ≡ l.initial.table.items ++ table_of (packed_from l.first 0 l.places);
  low : l.next < 2 ^ 48;
  within : l.at ≤ length l.places;
}

abbrev pub decreases-loop-at : goal.decreases-loop-at
decreases-loop-at l = length l.places - l.at
