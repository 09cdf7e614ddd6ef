-- What functions that agree give of lists.
use Rattle.std.proofs.Common.{◌≡◌, ℕ, ◌+◌, ◌<◌, ◌≤◌, Bool, true, false, List, [], ◌∷◌, ◌++◌, length, drop, get_or, Option, Some, None, refl, sym, ap, ◌∙◌, append_assoc}
use Rattle.std.specs.Prelude.{◌&&◌, find, map, fold, max, if◌then◌else◌}
use Rattle.std.specs.List.{All, filter_map, cons_option, list_all}
use Rattle.std.proofs.lemmas.List.{append-nil, at_drop_more, at_drop_all}
use Rattle.std.proofs.lemmas.List.Elements.{All-head, All-tail}

pub map_same : {A B : Type 0} (g h : A → B) → ((x : A) → g x ≡ h x) → (xs : List A) → map g xs ≡ map h xs
map_same g h same [] = refl
map_same {B = B} g h same (x ∷ xs) = ap (λ (y : B). y ∷ map g xs) (same x) ∙ ap (λ (ys : List B). h x ∷ ys) (map_same g h same xs)

pub fold_same : {A : Type 0} (g h : A → ℕ) (xs : List A) (last : ℕ) → All (λ x. g x ≡ h x) xs → fold (λ most x. max most (g x)) last xs ≡ fold (λ most x. max most (h x)) last xs
fold_same g h [] last same = refl
fold_same {A = A} g h (x ∷ xs) last same =
    ap (λ (k : ℕ). fold (λ most y. max most (g y)) (max last k) xs) (All-head (λ (y : A). g y ≡ h y) x xs same)
    ∙ fold_same g h xs (max last (h x)) (All-tail (λ (y : A). g y ≡ h y) x xs same)

-- ---- a test of all rows

step_all : {A : Type 0} (q : A → Bool) (xs : List A) (i : ℕ) (d : A) → i < length xs → list_all q (drop i xs) ≡ (q (get_or xs i d) && list_all q (drop (i + 1) xs))
step_all q xs i d lt = at_drop_more (list_all q) xs i d lt

-- a row that passes
pub all_more : {A : Type 0} (q : A → Bool) (xs : List A) (i : ℕ) (d : A) (whole : Bool) → i < length xs → q (get_or xs i d) ≡ true → list_all q (drop i xs) ≡ whole → list_all q (drop (i + 1) xs) ≡ whole
all_more q xs i d whole lt passes so_far = sym (step_all q xs i d lt ∙ ap (λ (b : Bool). b && list_all q (drop (i + 1) xs)) passes) ∙ so_far

-- a row that does not
pub all_fails : {A : Type 0} (q : A → Bool) (xs : List A) (i : ℕ) (d : A) (whole : Bool) → i < length xs → q (get_or xs i d) ≡ false → list_all q (drop i xs) ≡ whole → whole ≡ false
all_fails q xs i d whole lt fails so_far = sym so_far ∙ (step_all q xs i d lt ∙ ap (λ (b : Bool). b && list_all q (drop (i + 1) xs)) fails)

-- ---- an item that is sought

find_step : {A B : Type 0} (q : A → Bool) (k : Option A → B) (xs : List A) (i : ℕ) (x : A) → i < length xs → x ≡ get_or xs i x → k (find q (drop i xs)) ≡ k (if q x then Some x else find q (drop (i + 1) xs))
find_step q k xs i x lt is = at_drop_more (λ (ys : List _). k (find q ys)) xs i x lt ∙ rw (← is) refl

pub find_here : {A B : Type 0} (q : A → Bool) (k : Option A → B) (xs : List A) (i : ℕ) (x : A) (whole : B) → i < length xs → x ≡ get_or xs i x → q x ≡ true → k (find q (drop i xs)) ≡ whole → k (Some x) ≡ whole
find_here {A = A} q k xs i x whole lt is hit so_far = sym (find_step q k xs i x lt is ∙ ap (λ (b : Bool). k (if b then Some x else find q (drop (i + 1) xs))) hit) ∙ so_far

pub find_past : {A B : Type 0} (q : A → Bool) (k : Option A → B) (xs : List A) (i : ℕ) (x : A) (whole : B) → i < length xs → x ≡ get_or xs i x → q x ≡ false → k (find q (drop i xs)) ≡ whole → k (find q (drop (i + 1) xs)) ≡ whole
find_past q k xs i x whole lt is miss so_far = sym (find_step q k xs i x lt is ∙ ap (λ (b : Bool). k (if b then Some x else find q (drop (i + 1) xs))) miss) ∙ so_far

pub find_done : {A B : Type 0} (q : A → Bool) (k : Option A → B) (xs : List A) (i : ℕ) (whole : B) → length xs ≤ i → k (find q (drop i xs)) ≡ whole → k None ≡ whole
find_done q k xs i whole le so_far = sym (at_drop_all (λ (ys : List _). k (find q ys)) xs i le) ∙ so_far

-- ---- what is made of rows

made_step : {A B : Type 0} (h : A → Option B) (xs : List A) (i : ℕ) (d : A) → i < length xs → filter_map h (drop i xs) ≡ cons_option (h (get_or xs i d)) (filter_map h (drop (i + 1) xs))
made_step h xs i d lt = at_drop_more (filter_map h) xs i d lt

join_option : {B : Type 0} (o : Option B) (front rest : List B) → (front ++ cons_option o []) ++ rest ≡ front ++ cons_option o rest
join_option None front rest = ap (λ (z : List _). z ++ rest) (append-nil front)
join_option (Some y) front rest = append_assoc front (y ∷ []) rest

pub made_more : {A B : Type 0} (h : A → Option B) (xs : List A) (i : ℕ) (d : A) (front new whole : List B) (o : Option B) → i < length xs → o ≡ h (get_or xs i d) → new ≡ front ++ cons_option o [] → front ++ filter_map h (drop i xs) ≡ whole → new ++ filter_map h (drop (i + 1) xs) ≡ whole
made_more {B = B} h xs i d front new whole o lt is more so_far =
    let rest : List B = filter_map h (drop (i + 1) xs) in
    ap (λ (z : List B). z ++ rest) more
    ∙ (join_option o front rest
    ∙ (ap (λ (p : Option B). front ++ cons_option p rest) is
    ∙ (ap (λ (z : List B). front ++ z) (sym (made_step h xs i d lt)) ∙ so_far)))

pub all_same : {A : Type 0} (p q : A → Bool) → ((x : A) → p x ≡ q x) → (xs : List A) → list_all p xs ≡ list_all q xs
all_same p q same [] = refl
all_same {A = A} p q same (x ∷ xs) = ap (λ (b : Bool). b && list_all p xs) (same x) ∙ ap (λ (b : Bool). q x && b) (all_same p q same xs)

pub off : (b : Bool) → (b && false) ≡ false
off true = refl
off false = refl
