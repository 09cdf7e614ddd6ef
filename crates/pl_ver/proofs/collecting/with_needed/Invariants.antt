use Rattle.std.proofs.Common.{◌≡◌, List, ℕ, true}
use Rattle.std.specs.List.{flat_map}
use Rattle.pl_ver.specs.declared.constants.TheConstants.{VERNEED_SIZE}
use Rattle.pl_ver.specs.Chains.{chain, is_chain, is_verneed, needed_at, needed}
use Rattle.pl_ver.specs.Collecting.{add_all}
use Rattle.pl_ver.proofs.collecting.with_needed.Given as goal

abbrev pub invariant-loop-more : goal.invariant-loop-more
invariant-loop-more l =
    ((strings : List ℕ) × (is_chain (is_verneed strings l.verneed) VERNEED_SIZE l.verneed l.more l.at ≡ true))
    × (add_all l.records (flat_map (needed_at l.verneed) (chain VERNEED_SIZE l.verneed l.more l.at)) ≡ add_all l.fn.records (needed l.verneed l.fn.needs))

abbrev pub decreases-loop-more : goal.decreases-loop-more
decreases-loop-more l = l.more
