use Rattle.std.proofs.Common.{◌-◌, length}
use Rattle.pl_form.proofs.LastLaws.{IsSeeking}
use Rattle.pl_form.proofs.program_form.find_last.Given as goal

abbrev pub invariant-loop-past : goal.invariant-loop-past
invariant-loop-past l = IsSeeking l.segments (length l.segments - l.past)
