-- How counts of faults go on from one call to the next.
use Rattle.std.proofs.Common.{ℕ, Bool, false, refl, subst}
use Rattle.pl_base.specs.Counts.{Counted}

-- a call that did not fail, and another
pub counted_then : (failed : Bool) (a b c : ℕ) → Counted false a b → Counted failed b c → Counted failed a c
counted_then failed a b c first second = subst (λ n. Counted failed n c) (first.quiet refl) second
