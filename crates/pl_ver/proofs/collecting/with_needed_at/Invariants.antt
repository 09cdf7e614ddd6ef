use Rattle.std.proofs.Common.{◌≡◌, List, ℕ, true, map}
use Rattle.pl_ver.specs.declared.constants.TheConstants.{VERNAUX_SIZE, VNA_NAME}
use Rattle.pl_ver.specs.Fields.{vernaux_at}
use Rattle.pl_ver.specs.Chains.{chain, is_chain, is_named, needed_at}
use Rattle.pl_ver.specs.Collecting.{add_all}
use Rattle.pl_ver.proofs.collecting.with_needed_at.Given as goal

abbrev pub invariant-loop-more : goal.invariant-loop-more
invariant-loop-more l =
    ((strings : List ℕ) × (is_chain (is_named strings l.verneed VNA_NAME) VERNAUX_SIZE l.verneed l.more l.at ≡ true))
    × (add_all l.records (map (vernaux_at l.verneed) (chain VERNAUX_SIZE l.verneed l.more l.at)) ≡ add_all l.fn.records (needed_at l.verneed l.fn.verneed_at))

abbrev pub decreases-loop-more : goal.decreases-loop-more
decreases-loop-more l = l.more
