use Rattle.std.proofs.Common.{◌≡◌, ◌++◌, drop, map}
use Rattle.pl_form.specs.Found.{word_window}
use Rattle.pl_form.specs.Rows.{spots_in_memory}
use Rattle.pl_form.proofs.found.push_word_spots.Given as goal

abbrev pub invariant-loop-address : goal.invariant-loop-address
invariant-loop-address l = l.spots.items ++ spots_in_memory l.memory (drop l.address-index (map word_window l.addresses)) ≡ l.initial.spots.items ++ spots_in_memory l.memory (map word_window l.addresses)
