use Rattle.std.proofs.Common.{◌≡◌, drop}
use Rattle.pl_object.specs.Runs.{meets_run}
use Rattle.pl_object.specs.Twins.{are_twins, entry_key}
use Rattle.pl_object.proofs.twins.meets_run.Given as goal

abbrev pub invariant-loop-other : goal.invariant-loop-other
invariant-loop-other l = meets_run (are_twins l.versions l.program l.symbols) entry_key l.entry (drop l.other-index l.others) ≡ meets_run (are_twins l.versions l.program l.symbols) entry_key l.entry l.others
