-- Words that are kept as numbers.
use Rattle.std.proofs.Common.{◌≡◌, ℕ, ◌+◌, ◌<◌, List, [], ◌∷◌, ◌++◌, length, map, take, get_or, Option, Some, None, refl, sym, ap, ◌∙◌}
use Rattle.std.proofs.lemmas.List.{map-append, take_more}
use Rattle.pl_rewrite.specs.Words.{givens_of, numbers_of, words_by}

pub map_more : {A B : Type 0} (f : A → B) (xs : List A) (i : ℕ) (d : A) (front new : List B) (y : B) → i < length xs → y ≡ f (get_or xs i d) → new ≡ front ++ y ∷ [] → front ≡ map f (take i xs) → new ≡ map f (take (i + 1) xs)
map_more {A = A} {B = B} f xs i d front new y lt is more so_far =
    more ∙ ap (λ (z : B). front ++ z ∷ []) is ∙ ap (λ (ys : List B). ys ++ f (get_or xs i d) ∷ []) so_far ∙ sym (map-append f (take i xs) (get_or xs i d ∷ [])) ∙ ap (map f) (sym (take_more xs i d lt))

-- they come back
pub words_back : (rows : List (Option ℕ)) → words_by (numbers_of rows) (givens_of rows) ≡ rows
unfolding words_by
words_back [] = refl
words_back (None ∷ rows) = ap (λ (ws : List (Option ℕ)). None ∷ ws) (words_back rows)
words_back (Some w ∷ rows) = ap (λ (ws : List (Option ℕ)). Some w ∷ ws) (words_back rows)
