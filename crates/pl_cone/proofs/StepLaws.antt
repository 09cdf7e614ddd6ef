-- Steps over rows that go past one that gives a result from which nothing is made, and flags of rows.
use Rattle.std.proofs.Common.{◌≡◌, ℕ, ◌+◌, ◌<◌, List, [], ◌∷◌, ◌++◌, length, take, drop, get_or, Result, Ok, Err, refl, sym, ap, subst, ◌∙◌}
use Rattle.std.specs.List.{AllZip}
use Rattle.std.proofs.lemmas.List.{at_drop_more, take_more}
use Rattle.pl_base.specs.Answers.{◌>>=◌}
use Rattle.pl_base.specs.Each.{each}

-- one row more whose result is nothing to what follows
past : {A B E C : Type 0} (f : A → Result B E) (x : A) (y : B) (rest : Result (List B) E) (k : List B → Result C E) → f x ≡ Ok y → ((ys : List B) → k (y ∷ ys) ≡ k ys) → ((f x >>= λ z. rest >>= λ zs. Ok (z ∷ zs)) >>= k) ≡ (rest >>= k)
past f x y (Ok ys) k e none = rw e (none ys)
past f x y (Err fault) k e none = rw e refl

pub step_past : {A B E C : Type 0} (f : A → Result B E) (xs : List A) (i : ℕ) (d : A) (y : B) (k : List B → Result C E) (whole : Result C E) → i < length xs → f (get_or xs i d) ≡ Ok y → ((ys : List B) → k (y ∷ ys) ≡ k ys)
    → (each f (drop i xs) >>= k) ≡ whole → (each f (drop (i + 1) xs) >>= k) ≡ whole
unfolding each
step_past {A = A} {B = B} {E = E} {C = C} f xs i d y k whole lt e none so_far =
    sym (ap (λ (r : Result (List B) E). r >>= k) (at_drop_more (each f) xs i d lt) ∙ past f (get_or xs i d) y (each f (drop (i + 1) xs)) k e none) ∙ so_far

-- ---- rows that are added

-- one row more on each side
zip_push : {A B : Type 0} (R : A → B → Type 0) (xs : List A) (ys : List B) (x : A) (y : B) → AllZip R xs ys → R x y → AllZip R (xs ++ x ∷ []) (ys ++ y ∷ [])
zip_push R [] [] x y all one = (one, tt)
zip_push R [] (b ∷ ys) x y all one = absurd all
zip_push R (a ∷ xs) [] x y all one = absurd all
zip_push R (a ∷ xs) (b ∷ ys) x y all one = (all.0, zip_push R xs ys x y all.1 one)

pub zip_more : {A B : Type 0} (R : A → B → Type 0) (xs : List A) (i : ℕ) (d : A) (ys after : List B) (y : B) → i < length xs → AllZip R (take i xs) ys → R (get_or xs i d) y → after ≡ ys ++ y ∷ [] → AllZip R (take (i + 1) xs) after
zip_more {A = A} {B = B} R xs i d ys after y lt all one more =
    let longer : take i xs ++ get_or xs i d ∷ [] ≡ take (i + 1) xs = sym (take_more xs i d lt) in
    subst (λ (zs : List B). AllZip R (take (i + 1) xs) zs) (sym more) (subst (λ (zs : List A). AllZip R zs (ys ++ y ∷ [])) longer (zip_push R (take i xs) ys (get_or xs i d) y all one))
