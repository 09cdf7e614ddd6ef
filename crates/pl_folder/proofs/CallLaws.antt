-- Faults of calls.
use Rattle.std.proofs.Common.{◌≡◌, sym, subst}
use Rattle.std.specs.Prelude.{Result, Ok, Err, IsErrAnd}
use Rattle.pl_folder.specs.declared.fault.FolderFault.{FolderFault}
use Rattle.pl_folder.specs.Calls.{Calls}
use Rattle.pl_folder.specs.Effects.{Effect}
use Rattle.pl_folder.specs.Seen.{Seen, ending, fault_ending}

-- a fault that is passed on
pub passed : {X : Type 0} {P : Effect} {a b : Seen} (r : Result X FolderFault) (fault : FolderFault) → IsErrAnd r (λ f. f ≡ fault) → Calls (fault_ending fault) P a b → Calls (ending r) P a b
passed (Ok x) fault is call = absurd is
passed {P = P} {a = a} {b = b} (Err f) fault is call = subst (λ g. Calls (fault_ending g) P a b) (sym is) call
