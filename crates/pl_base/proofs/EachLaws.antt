-- A loop over rows, with the results so far in front.
use Rattle.std.proofs.Common.{◌≡◌, ℕ, suc, ◌+◌, ◌≤◌, ◌<◌, List, [], ◌∷◌, ◌++◌, Result, Ok, Err, refl, sym, ap, ◌∙◌, append_assoc, arith, length, drop, get_or, Bool, true, false}
use Rattle.std.proofs.lemmas.List.{append-nil, at_drop_more, at_drop_all}
use Rattle.std.proofs.lemmas.List.FromFn.{length-range_with_len, get_or-range_with_len}
use Rattle.std.specs.List.{range_with_len}
use Rattle.std.specs.Prelude.{MatchBool, ⊤}
use Rattle.pl_base.specs.Answers.{◌>>=◌}
use Rattle.pl_base.specs.Each.{each, with_front}

-- ---- results in front

-- none in front
pub front_nothing : {B E : Type 0} (rest : Result (List B) E) → with_front [] rest ≡ rest
front_nothing (Ok ys) = refl
front_nothing (Err e) = refl

-- the first of the rest comes to stand in front
pub regroup : {B E : Type 0} (front : List B) (y : B) (rest : Result (List B) E) → with_front front (rest >>= λ ys. Ok (y ∷ ys)) ≡ with_front (front ++ y ∷ []) rest
regroup {B = B} front y (Ok ys) = ap (λ (zs : List B). Ok zs) (sym (append_assoc front (y ∷ []) ys))
regroup front y (Err e) = refl

-- results that have others in front themselves
front_two : {B E : Type 0} (front : List B) (r s : Result (List B) E) → with_front front (r >>= λ xs. with_front xs s) ≡ (with_front front r >>= λ xs. with_front xs s)
front_two {B = B} front (Ok xs) (Ok ys) = ap (λ (zs : List B). Ok zs) (sym (append_assoc front xs ys))
front_two front (Ok xs) (Err e) = refl
front_two front (Err e) s = refl

-- ---- row by row

-- a step that gives a result: one more in front
pub each_more : {A B E : Type 0} (f : A → Result B E) (xs : List A) (i : ℕ) (d : A) (front : List B) (y : B) (whole : Result (List B) E) → i < length xs → f (get_or xs i d) ≡ Ok y
    → with_front front (each f (drop i xs)) ≡ whole → with_front (front ++ y ∷ []) (each f (drop (i + 1) xs)) ≡ whole
unfolding each
each_more f xs i d front y whole lt h so_far =
    let one : with_front front (each f (drop i xs)) ≡ with_front (front ++ y ∷ []) (each f (drop (i + 1) xs)) =
    ap (with_front front) (at_drop_more (each f) xs i d lt) ∙ rw h (regroup front y (each f (drop (i + 1) xs))) in
    sym one ∙ so_far

-- a step that refuses decides the whole
pub each_stops : {A B E : Type 0} (f : A → Result B E) (xs : List A) (i : ℕ) (d : A) (front : List B) (e : E) (whole : Result (List B) E) → i < length xs → f (get_or xs i d) ≡ Err e
    → with_front front (each f (drop i xs)) ≡ whole → whole ≡ Err e
unfolding each
each_stops f xs i d front e whole lt h so_far =
    sym so_far ∙ ap (with_front front) (at_drop_more (each f) xs i d lt) ∙ rw h refl

-- behind the last row the results in front are the whole
pub each_done : {A B E : Type 0} (f : A → Result B E) (xs : List A) (i : ℕ) (front : List B) (whole : Result (List B) E) → length xs ≤ i
    → with_front front (each f (drop i xs)) ≡ whole → whole ≡ Ok front
unfolding each
each_done {B = B} f xs i front whole le so_far =
    sym so_far ∙ ap (with_front front) (at_drop_all (each f) xs i le) ∙ ap (λ (zs : List B). Ok zs) (append-nil front)

-- a refusal, or a want of memory, ends the loop
pub each_fails : {A B E : Type 0} (m : E → Bool) (f : A → Result B E) (xs : List A) (i : ℕ) (d : A) (front : List B) (e : E) (whole : Result (List B) E) → i < length xs → MatchBool (m e) ⊤ (f (get_or xs i d) ≡ Err e)
    → with_front front (each f (drop i xs)) ≡ whole → MatchBool (m e) ⊤ (whole ≡ Err e)
each_fails m f xs i d front e whole lt h so_far =
    elim (m e) as (λ b. MatchBool b ⊤ (f (get_or xs i d) ≡ Err e) → MatchBool b ⊤ (whole ≡ Err e)) [
      | true ↦ λ _. tt
      | false ↦ λ stop. each_stops f xs i d front e whole lt stop so_far
    ] h

-- ---- as many results as rows

each_one : {A B E : Type 0} (f : A → Result B E) (xs : List A) (first : Result B E) (rest : Result (List B) E) (ys : List B)
    → (first >>= λ y. rest >>= λ zs. Ok (y ∷ zs)) ≡ Ok ys → ((zs : List B) → rest ≡ Ok zs → length zs ≡ length xs) → length ys ≡ suc (length xs)
each_one f xs (Err e) rest ys h more = absurd cc
each_one f xs (Ok y) (Err e) ys h more = absurd cc
each_one {B = B} f xs (Ok y) (Ok zs) ys h more = let same : (y ∷ zs) ≡ ys = cc in ap length (sym same) ∙ ap suc (more zs refl)

pub length-each : {A B E : Type 0} (f : A → Result B E) (xs : List A) (ys : List B) → each f xs ≡ Ok ys → length ys ≡ length xs
unfolding each
length-each f [] ys h = let same : [] ≡ ys = cc in ap length (sym same)
length-each f (x ∷ xs) ys h = each_one f xs (f x) (each f xs) ys h (λ zs e. length-each f xs zs e)

-- ---- one list after another

each_append : {A B E : Type 0} (f : A → Result B E) (xs ys : List A) → each f (xs ++ ys) ≡ (each f xs >>= λ front. with_front front (each f ys))
unfolding each
each_append f [] ys = sym (front_nothing (each f ys))
each_append {B = B} {E = E} f (x ∷ xs) ys =
    ap (λ (r : Result (List B) E). f x >>= λ z. r >>= λ zs. Ok (z ∷ zs)) (each_append f xs ys) ∙ shift (f x) (each f xs) (each f ys)
  where
    shift : (a : Result B E) (r s : Result (List B) E) → (a >>= λ z. (r >>= λ front. with_front front s) >>= λ zs. Ok (z ∷ zs)) ≡ ((a >>= λ z. r >>= λ zs. Ok (z ∷ zs)) >>= λ front. with_front front s)
    shift (Ok z) (Ok zs) (Ok bs) = refl
    shift (Ok z) (Ok zs) (Err e) = refl
    shift (Ok z) (Err e) s = refl
    shift (Err e) r s = refl

-- the first list's results come to stand in front
pub front_more : {A B E : Type 0} (f : A → Result B E) (xs ys : List A) (front new : List B) → with_front front (each f xs) ≡ Ok new → with_front front (each f (xs ++ ys)) ≡ with_front new (each f ys)
front_more f xs ys front new e = ap (with_front front) (each_append f xs ys) ∙ front_two front (each f xs) (each f ys) ∙ rw e refl

-- or the first list is refused
pub front_stops : {A B E : Type 0} (f : A → Result B E) (xs ys : List A) (front : List B) (fault : E) → with_front front (each f xs) ≡ Err fault → with_front front (each f (xs ++ ys)) ≡ Err fault
front_stops f xs ys front fault e = ap (with_front front) (each_append f xs ys) ∙ front_two front (each f xs) (each f ys) ∙ rw e refl

-- ---- the same over the numbers below n

-- the results of the rows below i in front, and what the rows from i on give, are the whole
abbrev pub SoFar : {B E : Type 0} → (ℕ → Result B E) → ℕ → ℕ → List B → Result (List B) E → Type 0
SoFar f n i front whole = with_front front (each f (drop i (range_with_len 0 n))) ≡ whole

at_row : {B E : Type 0} (f : ℕ → Result B E) (n i : ℕ) → i < n → f (get_or (range_with_len 0 n) i 0) ≡ f i
at_row f n i lt = ap f (get_or-range_with_len 0 n i 0 lt ∙ omega arith)

-- before the first row
pub rows_begin : {B E : Type 0} (f : ℕ → Result B E) (n : ℕ) → SoFar f n 0 [] (each f (range_with_len 0 n))
rows_begin f n = front_nothing (each f (range_with_len 0 n))

-- a row that gives a result
pub rows_more : {B E : Type 0} (f : ℕ → Result B E) (n i : ℕ) (front : List B) (y : B) (whole : Result (List B) E) → i < n → f i ≡ Ok y → SoFar f n i front whole → SoFar f n (i + 1) (front ++ y ∷ []) whole
rows_more f n i front y whole lt h so_far =
    each_more f (range_with_len 0 n) i 0 front y whole (omega (arith, length-range_with_len 0 n)) (at_row f n i lt ∙ h) so_far

-- a row that refuses, or a want of memory, ends the loop
pub rows_fail : {B E : Type 0} (m : E → Bool) (f : ℕ → Result B E) (n i : ℕ) (front : List B) (e : E) (whole : Result (List B) E) → i < n → MatchBool (m e) ⊤ (f i ≡ Err e) → SoFar f n i front whole → MatchBool (m e) ⊤ (whole ≡ Err e)
rows_fail m f n i front e whole lt h so_far =
    each_fails m f (range_with_len 0 n) i 0 front e whole (omega (arith, length-range_with_len 0 n)) (rw (at_row f n i lt) h) so_far

-- behind the last row
pub rows_done : {B E : Type 0} (f : ℕ → Result B E) (n i : ℕ) (front : List B) (whole : Result (List B) E) → n ≤ i → SoFar f n i front whole → whole ≡ Ok front
rows_done f n i front whole le so_far = each_done f (range_with_len 0 n) i front whole (omega (arith, length-range_with_len 0 n)) so_far
