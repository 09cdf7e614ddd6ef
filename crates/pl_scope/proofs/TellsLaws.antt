-- The walk means no want of memory where nothing that it is told of objects does.
use Rattle.std.proofs.Common.{refl, ℕ, zero, suc, Bool, List, Option, Some, None, Result}
use Rattle.pl_base.specs.Answers.{NeverMemory}
use Rattle.pl_base.proofs.TellsLaws.{Keeps, ok_tells, unless_tells, found_tells, either_tells, then_tells, because_tells, run_tells}
use Rattle.pl_object.specs.declared.object.Object.{Object}
use Rattle.pl_scope.specs.Walking.{Walking, wants}
use Rattle.pl_scope.specs.Walk.{Walked, is_memory, added, checked, entered, at_wanted, at_most, remaining, begun, walk}
use Rattle.pl_scope.specs.declared.constants.TheConstants.{MAX_MEMBERS}
use Rattle.pl_scope.specs.declared.fault.WalkFault.{WalkFault}

added_tells : (names : List (List ℕ)) (n : List ℕ) → NeverMemory is_memory (added names n)
unfolding added
added_tells names n = either_tells is_memory _ _ _ (ok_tells is_memory _) (unless_tells is_memory _ _ _ refl (ok_tells is_memory _))

checked_tells : (w : Walking) (n : List ℕ) (o : Object) → NeverMemory is_memory (checked w n o)
unfolding checked
checked_tells w n o = unless_tells is_memory _ _ _ refl (found_tells is_memory _ _ _ (λ program. refl) (ok_tells is_memory tt))

entered_tells : (w : Walking) (n : List ℕ) (o : Object) → NeverMemory is_memory (entered w n o)
unfolding entered
entered_tells w n o = then_tells is_memory _ _ (checked_tells w n o) (λ u. then_tells is_memory _ _ (run_tells is_memory added w.names o.needed added_tells) (λ names. ok_tells is_memory _))

wanted_tells : {E : Type 0} (m : E → Bool) (wanted : Option (List ℕ)) (step : List ℕ → Result Walked E) → ((n : List ℕ) → NeverMemory m (step n)) → NeverMemory m (at_wanted wanted step)
wanted_tells m None step ts = ok_tells m _
wanted_tells m (Some n) step ts = ts n

most_tells : {E : Type 0} (fault : WalkFault → E) (m : E → Bool) (files : List ℕ → Result Object E) → Keeps is_memory m fault → ((n : List ℕ) → NeverMemory m (files n))
    → (most : ℕ) (w : Walking) → NeverMemory m (at_most fault files most w)
unfolding at_most
most_tells fault m files keeps tells zero w = ok_tells m _
most_tells fault m files keeps tells (suc most) w =
    wanted_tells m (wants w) _ (λ n. then_tells m _ _ (tells n) (λ o. then_tells m _ _ (because_tells is_memory m fault _ keeps (entered_tells w n o))
    (λ v. then_tells m _ _ (most_tells fault m files keeps tells most v) (λ rest. ok_tells m _))))

pub walk_tells : {E : Type 0} (fault : WalkFault → E) (m : E → Bool) (files : List ℕ → Result Object E) (name : List ℕ) → Keeps is_memory m fault → ((n : List ℕ) → NeverMemory m (files n))
    → NeverMemory m (walk fault files name)
unfolding walk remaining
walk_tells fault m files name keeps tells = most_tells fault m files keeps tells MAX_MEMBERS (begun name)
