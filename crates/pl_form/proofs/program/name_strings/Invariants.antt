use Rattle.std.proofs.Common.{◌≡◌}
use Rattle.pl_move.specs.Moves.{rows}
use Rattle.pl_form.specs.Extending.{with_strings}
use Rattle.pl_form.proofs.program.name_strings.Given as goal

abbrev pub invariant-loop-index : goal.invariant-loop-index
invariant-loop-index l = l.table ≡ rows 16 (with_strings l.address l.size) l.index l.initial.table
