-- Steps over a list that may refuse.
use Rattle.std.specs.Prelude.{List, [], ◌∷◌, ◌++◌, Result, Ok}
use Rattle.pl_base.specs.Answers.{◌>>=◌}

-- a step at each row in turn: all the results, or the first refusal
unfoldable pub each : {A B E : Type 0} → (A → Result B E) → List A → Result (List B) E
each f [] = Ok []
each f (x ∷ xs) = f x >>= λ y. each f xs >>= λ ys. Ok (y ∷ ys)

-- a state that each row in turn changes or refuses: the last state, or the first refusal
unfoldable pub run : {S A E : Type 0} → (S → A → Result S E) → S → List A → Result S E
run f s [] = Ok s
run f s (x ∷ xs) = f s x >>= λ t. run f t xs

-- results with others in front of them
abbrev pub with_front : {B E : Type 0} → List B → Result (List B) E → Result (List B) E
with_front front rest = rest >>= λ ys. Ok (front ++ ys)
