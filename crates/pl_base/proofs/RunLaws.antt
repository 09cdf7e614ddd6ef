-- A loop over rows that changes a state. x is the row at i, as a loop reads it.
use Rattle.std.proofs.Common.{◌≡◌, ℕ, ◌+◌, ◌≤◌, ◌<◌, List, Result, Ok, Err, refl, sym, ap, ◌∙◌, length, drop, get_or, Bool, true, false}
use Rattle.std.proofs.lemmas.List.{at_drop_more, at_drop_all}
use Rattle.std.specs.Prelude.{MatchBool, ⊤}
use Rattle.pl_base.specs.Answers.{◌>>=◌}
use Rattle.pl_base.specs.Each.{run}

step_of : {S A E : Type 0} (f : S → A → Result S E) (s : S) (xs : List A) (i : ℕ) (x : A) → i < length xs → x ≡ get_or xs i x → run f s (drop i xs) ≡ (f s x >>= λ t. run f t (drop (i + 1) xs))
unfolding run
step_of f s xs i x lt is = at_drop_more (run f s) xs i x lt ∙ rw (← is) refl

-- a step that gives a state
pub run_more : {S A E : Type 0} (f : S → A → Result S E) (s t : S) (xs : List A) (i : ℕ) (x : A) (whole : Result S E) → i < length xs → x ≡ get_or xs i x → f s x ≡ Ok t
    → run f s (drop i xs) ≡ whole → run f t (drop (i + 1) xs) ≡ whole
run_more {S = S} {E = E} f s t xs i x whole lt is step so_far =
    let one : run f s (drop i xs) ≡ run f t (drop (i + 1) xs) = step_of f s xs i x lt is ∙ ap (λ (r : Result S E). r >>= λ u. run f u (drop (i + 1) xs)) step in
    sym one ∙ so_far

run_stops : {S A E : Type 0} (f : S → A → Result S E) (s : S) (xs : List A) (i : ℕ) (x : A) (e : E) (whole : Result S E) → i < length xs → x ≡ get_or xs i x → f s x ≡ Err e
    → run f s (drop i xs) ≡ whole → whole ≡ Err e
run_stops {S = S} {E = E} f s xs i x e whole lt is step so_far =
    sym so_far ∙ step_of f s xs i x lt is ∙ ap (λ (r : Result S E). r >>= λ u. run f u (drop (i + 1) xs)) step

-- a step that refuses, or a want of memory, ends the loop
pub run_fails : {S A E : Type 0} (m : E → Bool) (f : S → A → Result S E) (s : S) (xs : List A) (i : ℕ) (x : A) (e : E) (whole : Result S E) → i < length xs → x ≡ get_or xs i x → MatchBool (m e) ⊤ (f s x ≡ Err e)
    → run f s (drop i xs) ≡ whole → MatchBool (m e) ⊤ (whole ≡ Err e)
run_fails m f s xs i x e whole lt is h so_far =
    elim (m e) as (λ b. MatchBool b ⊤ (f s x ≡ Err e) → MatchBool b ⊤ (whole ≡ Err e)) [
      | true ↦ λ _. tt
      | false ↦ λ stop. run_stops f s xs i x e whole lt is stop so_far
    ] h

-- behind the last row the state is the whole
pub run_done : {S A E : Type 0} (f : S → A → Result S E) (s : S) (xs : List A) (i : ℕ) (whole : Result S E) → length xs ≤ i → run f s (drop i xs) ≡ whole → whole ≡ Ok s
unfolding run
run_done f s xs i whole le so_far = sym so_far ∙ at_drop_all (run f s) xs i le
