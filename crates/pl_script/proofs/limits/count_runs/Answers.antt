use Rattle.std.proofs.Common.{rules}
use Rattle.pl_script.proofs.limits.count_runs.Goals as goal

pub returns : goal.returns
returns c = search rules
