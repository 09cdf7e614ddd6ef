use Rattle.std.proofs.Common.{◌≡◌, drop}
use Rattle.pl_object.specs.Runs.{any_run}
use Rattle.pl_object.specs.Twins.{are_twins, entry_key}
use Rattle.pl_object.proofs.twins.any_run.Given as goal

abbrev pub invariant-loop-index : goal.invariant-loop-index
invariant-loop-index l = any_run (are_twins l.versions l.program l.symbols) entry_key (drop l.index l.entries) ≡ any_run (are_twins l.versions l.program l.symbols) entry_key l.entries
