use Rattle.std.proofs.Common.{◌≡◌, ◌++◌, drop}
use Rattle.pl_form.specs.Found.{raw_places}
use Rattle.pl_form.specs.Rows.{spots_in_memory}
use Rattle.pl_form.proofs.found.push_row_spots.Given as goal

abbrev pub invariant-loop-index : goal.invariant-loop-index
invariant-loop-index l = l.spots.items ++ spots_in_memory l.memory (drop l.index (raw_places l.symbols l.table)) ≡ l.initial.spots.items ++ spots_in_memory l.memory (raw_places l.symbols l.table)
