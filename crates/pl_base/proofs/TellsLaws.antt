-- Definitions that mean no want of memory, step by step.
use Rattle.std.proofs.Common.{◌≡◌, Bool, true, false, List, [], ◌∷◌, Option, Some, None, Result, Ok, Err}
use Rattle.std.specs.Option.{ok_or}
use Rattle.std.specs.Prelude.{if◌then◌else◌}
use Rattle.pl_base.specs.Answers.{◌>>=◌, NeverMemory, unless, unless_found, because}
use Rattle.pl_base.specs.Each.{each, run}

-- ---- answers

pub ok_tells : {X E : Type 0} (m : E → Bool) (x : X) → NeverMemory m (Ok x)
unfolding NeverMemory
ok_tells m x = tt

pub err_tells : (X : Type 0) {E : Type 0} (m : E → Bool) (e : E) → m e ≡ false → NeverMemory {X = X} m (Err e)
unfolding NeverMemory
err_tells X m e h = h

-- ---- steps

pub unless_tells : {X E : Type 0} (m : E → Bool) (test : Bool) (fault : E) (next : Result X E) → m fault ≡ false → NeverMemory m next → NeverMemory m (unless test fault next)
unfolding NeverMemory
unless_tells m true fault next f t = f
unless_tells m false fault next f t = t

pub found_tells : {A X E : Type 0} (m : E → Bool) (found : Option A) (fault : A → E) (next : Result X E) → ((x : A) → m (fault x) ≡ false) → NeverMemory m next → NeverMemory m (unless_found found fault next)
unfolding NeverMemory
found_tells m (Some x) fault next f t = f x
found_tells m None fault next f t = t

pub either_tells : {X E : Type 0} (m : E → Bool) (test : Bool) (r s : Result X E) → NeverMemory m r → NeverMemory m s → NeverMemory m (if test then r else s)
either_tells m true r s t u = t
either_tells m false r s t u = u

pub or_tells : {X E : Type 0} (m : E → Bool) (found : Option X) (fault : E) → m fault ≡ false → NeverMemory m (ok_or found fault)
unfolding NeverMemory
or_tells m (Some x) fault f = tt
or_tells m None fault f = f

pub then_tells : {A B E : Type 0} (m : E → Bool) (r : Result A E) (f : A → Result B E) → NeverMemory m r → ((x : A) → NeverMemory m (f x)) → NeverMemory m (r >>= f)
unfolding NeverMemory
then_tells m (Ok x) f t ts = ts x
then_tells m (Err e) f t ts = t

-- ---- faults of a part as faults of the whole

-- a fault that is no want of memory stays none
abbrev pub Keeps : {E F : Type 0} → (E → Bool) → (F → Bool) → (E → F) → Type 0
Keeps {E = E} m n fault = (e : E) → m e ≡ false → n (fault e) ≡ false

-- the part means no want of memory
pub because_tells : {A E F : Type 0} (m : E → Bool) (n : F → Bool) (fault : E → F) (r : Result A E) → Keeps m n fault → NeverMemory m r → NeverMemory n (because fault r)
unfolding NeverMemory
because_tells m n fault (Ok x) f t = tt
because_tells m n fault (Err e) f t = f e t

-- or no fault of the part becomes one
pub cause_tells : {A E F : Type 0} (n : F → Bool) (fault : E → F) (r : Result A E) → ((e : E) → n (fault e) ≡ false) → NeverMemory n (because fault r)
unfolding NeverMemory
cause_tells n fault (Ok x) f = tt
cause_tells n fault (Err e) f = f e

-- ---- steps over a list

pub each_tells : {A B E : Type 0} (m : E → Bool) (f : A → Result B E) (xs : List A) → ((x : A) → NeverMemory m (f x)) → NeverMemory m (each f xs)
unfolding each
each_tells m f [] ts = ok_tells m []
each_tells m f (x ∷ xs) ts = then_tells m (f x) _ (ts x) (λ y. then_tells m (each f xs) _ (each_tells m f xs ts) (λ ys. ok_tells m _))

pub run_tells : {S A E : Type 0} (m : E → Bool) (f : S → A → Result S E) (s : S) (xs : List A) → ((t : S) (x : A) → NeverMemory m (f t x)) → NeverMemory m (run f s xs)
unfolding run
run_tells m f s [] ts = ok_tells m s
run_tells m f s (x ∷ xs) ts = then_tells m (f s x) _ (ts s x) (λ t. run_tells m f t xs ts)
