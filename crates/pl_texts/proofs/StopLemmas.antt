-- What holds of a stop, and of a result that passes one on.
use Rattle.std.proofs.Common.{◌≡◌, sym, subst}
use Rattle.std.specs.Prelude.{Result, Ok, Err, IsErrAnd}
use Rattle.pl_texts.specs.declared.cause.Cause.{Cause}
use Rattle.pl_texts.specs.declared.stop.Stop.{Stop}
use Rattle.pl_texts.specs.declared.stop.Stop.TheVariants as stops
use Rattle.pl_texts.specs.Stops.{Stops}

pub at_err : {X E : Type 0} (P : Result X E → Type 0) (r : Result X E) (e : E) → IsErrAnd r (λ f. f ≡ e) → P (Err e) → P r
at_err P (Ok x) e is p = absurd is
at_err {E = E} P (Err f) e is p = subst (λ (g : E). P (Err g)) (sym is) p

-- a stop that means a cause of one definition means it of another, where the one has it only where the other has it
pub stops_as : {X Y : Type 0} (told now : Type 0) (meant : Result X Cause) (other : Result Y Cause) (stop : Stop) → ((cause : Cause) → now → (told → meant ≡ Err cause) → other ≡ Err cause) → Stops told meant stop → Stops now other stop
stops_as told now meant other (stops.Cause cause) says is = λ at. says cause at is
stops_as told now meant other stops.Failed says is = tt
stops_as told now meant other stops.InputFailed says is = tt
stops_as told now meant other stops.NoMemory says is = tt
