use Rattle.std.proofs.Common.{◌≡◌}
use Rattle.pl_ver.specs.declared.constants.TheConstants.{VERDEF_SIZE}
use Rattle.pl_ver.specs.Chains.{is_chain, is_verdef, are_verdefs}
use Rattle.pl_ver.proofs.chains.are_verdefs.Given as goal

abbrev pub invariant-loop-more : goal.invariant-loop-more
invariant-loop-more l = is_chain (is_verdef l.strings l.verdef) VERDEF_SIZE l.verdef l.more l.at ≡ are_verdefs l.strings l.verdef l.fn.defs

abbrev pub decreases-loop-more : goal.decreases-loop-more
decreases-loop-more l = l.more
