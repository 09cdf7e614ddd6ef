use Rattle.pl_form.proofs.NameLaws.{IsCounting}
use Rattle.pl_form.proofs.program_form.has_long_names.Given as goal

abbrev pub invariant-loop-row : goal.invariant-loop-row
invariant-loop-row l = IsCounting l.list l.row-index l.room
