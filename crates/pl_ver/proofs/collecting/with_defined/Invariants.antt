use Rattle.std.proofs.Common.{◌≡◌, List, ℕ, true, map}
use Rattle.pl_ver.specs.declared.constants.TheConstants.{VERDEF_SIZE}
use Rattle.pl_ver.specs.Fields.{verdef_at}
use Rattle.pl_ver.specs.Chains.{chain, is_chain, is_verdef, defined}
use Rattle.pl_ver.specs.Collecting.{add_all}
use Rattle.pl_ver.proofs.collecting.with_defined.Given as goal

abbrev pub invariant-loop-more : goal.invariant-loop-more
invariant-loop-more l =
    ((strings : List ℕ) × (is_chain (is_verdef strings l.verdef) VERDEF_SIZE l.verdef l.more l.at ≡ true))
    × (add_all l.records (map (verdef_at l.verdef) (chain VERDEF_SIZE l.verdef l.more l.at)) ≡ add_all l.fn.records (defined l.verdef l.fn.defs))

abbrev pub decreases-loop-more : goal.decreases-loop-more
decreases-loop-more l = l.more
