use Rattle.std.proofs.Common.{◌≡◌}
use Rattle.pl_ver.specs.declared.constants.TheConstants.{VERNEED_SIZE}
use Rattle.pl_ver.specs.Chains.{is_chain, is_verneed, are_verneeds}
use Rattle.pl_ver.proofs.chains.are_verneeds.Given as goal

abbrev pub invariant-loop-more : goal.invariant-loop-more
invariant-loop-more l = is_chain (is_verneed l.strings l.verneed) VERNEED_SIZE l.verneed l.more l.at ≡ are_verneeds l.strings l.verneed l.fn.needs

abbrev pub decreases-loop-more : goal.decreases-loop-more
decreases-loop-more l = l.more
