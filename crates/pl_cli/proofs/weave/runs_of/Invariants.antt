use Rattle.std.proofs.Common.{◌≡◌, drop}
use Rattle.pl_base.specs.Each.{each, with_front}
use Rattle.pl_base.specs.Files.{files_of}
use Rattle.pl_weave.specs.Running.{AreRuns}
use Rattle.pl_cli.specs.Weave.{run_of, runs_of}
use Rattle.pl_cli.proofs.weave.runs_of.Given as goal

-- the runs so far, and those that are left, are the whole
abbrev pub invariant-loop-run : goal.invariant-loop-run
invariant-loop-run l = (with_front l.runs (each (run_of (files_of l.files)) (drop l.run-index l.asked)) ≡ runs_of (files_of l.files) l.asked) × AreRuns l.runs
