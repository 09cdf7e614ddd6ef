-- A folder in memory never fails.
use Rattle.std.proofs.Common.{◌≡◌, Bool, true, refl, arith, subst, ⊎_elim}
use Rattle.std.specs.Prelude.{◌≢◌}
use Rattle.pl_base.specs.Counts.{Counted}
use Rattle.pl_change.specs.Answers.{fault_ending}
use Rattle.pl_change.specs.declared.fault.BatchFault.{BatchFault}
use Rattle.pl_change.specs.declared.fault.BatchFault.TheVariants.{DiskFailed}
use Rattle.pl_folder.specs.Calls.{Calls}
use Rattle.pl_folder.specs.Effects.{Effect}
use Rattle.pl_folder.specs.InMemory.{quiet_seen}
use Rattle.pl_folder.specs.Seen.{Broken}
use Rattle.pl_folder.specs.declared.quiet_folder.QuietFolder.{QuietFolder}

never_rose : Counted true 0 0 → ⊥
never_rose counted = ⊎_elim (λ lt. omega (arith, lt)) (λ le. omega (arith, le)) (counted.rose refl)

module _ {P : Effect} (a b : QuietFolder) where
  pub never_broken : Calls Broken P (quiet_seen a) (quiet_seen b) → ⊥
  never_broken call = never_rose call.count

  -- so a run over it does not stop because it failed
  pub never_failed : (fault : BatchFault) → Calls (fault_ending fault) P (quiet_seen a) (quiet_seen b) → fault ≢ DiskFailed
  never_failed fault call is = never_broken (subst (λ (f : BatchFault). Calls (fault_ending f) P (quiet_seen a) (quiet_seen b)) is call)
