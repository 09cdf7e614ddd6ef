use Rattle.std.proofs.Common.{◌∙◌}
use Rattle.pl_scope.proofs.LeastLaws.{first_is}
use Rattle.pl_scope.proofs.probe.first_picked.Goals as goal

pub returns : goal.returns
returns c = c.least.ensures ∙ first_is c.args.probe.now c.args.pick c.requires
