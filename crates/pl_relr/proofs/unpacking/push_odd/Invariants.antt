use Rattle.std.proofs.Common.{◌≡◌, ◌++◌, ◌-◌, drop, map}
use Rattle.std.specs.List.{filter}
use Rattle.pl_relr.specs.Places.{place_bits, has_bit, place_of_bit, odd_places}
use Rattle.pl_relr.proofs.unpacking.push_odd.Given as goal

abbrev pub invariant-loop-bit : goal.invariant-loop-bit
invariant-loop-bit l =
    l.places.items ++ map (place_of_bit l.next) (filter (has_bit l.entry) (drop (l.bit - 1) place_bits)) ≡ l.initial.places.items ++ odd_places l.next l.entry
