-- Columns over the numbers of rows, and over the files.
use Rattle.std.proofs.Common.{◌≡◌, ℕ, zero, suc, ◌+◌, Bool, true, false, List, [], ◌∷◌, ◌++◌, length, map, Option, Some, None, refl, sym, ap, ◌∙◌, arith, inl, inr}
use Rattle.std.specs.Prelude.{filter, slice_get, if◌then◌else◌}
use Rattle.std.specs.List.{cons_option, filter_map, range_with_len}
use Rattle.std.proofs.lemmas.Bool.{cases_Bool}
use Rattle.std.proofs.lemmas.List.{append-nil, map-append}
use Rattle.std.proofs.lemmas.List.Elements.{filter-append}
use Rattle.std.proofs.lemmas.List.FromFn.{map-range_with_len_more}

-- a column is told by the files
pub map_rows : {A B : Type 0} (g : ℕ → B) (h : A → B) (xs : List A) (from : ℕ) → ((i k : ℕ) (x : A) → slice_get xs i ≡ Some x → k ≡ from + i → g k ≡ h x) → map g (range_with_len from (length xs)) ≡ map h xs
map_rows g h [] from same = refl
map_rows {B = B} g h (x ∷ xs) from same =
    ap (λ (y : B). y ∷ map g (range_with_len (from + 1) (length xs))) (same 0 from x refl (omega arith))
    ∙ ap (λ (ys : List B). h x ∷ ys) (map_rows g h xs (from + 1) (λ i k z at is. same (suc i) k z at (omega (arith, is))))

pub given_rows : {A B : Type 0} (g : ℕ → Option B) (h : A → Option B) (xs : List A) (from : ℕ) → ((i k : ℕ) (x : A) → slice_get xs i ≡ Some x → k ≡ from + i → g k ≡ h x) → filter_map g (range_with_len from (length xs)) ≡ filter_map h xs
given_rows g h [] from same = refl
given_rows {B = B} g h (x ∷ xs) from same =
    ap (λ (y : Option B). cons_option y (filter_map g (range_with_len (from + 1) (length xs)))) (same 0 from x refl (omega arith))
    ∙ ap (λ (ys : List B). cons_option (h x) ys) (given_rows g h xs (from + 1) (λ i k z at is. same (suc i) k z at (omega (arith, is))))

-- of some rows alone
pub kept_rows : {A B : Type 0} (p : ℕ → Bool) (q : A → Bool) (g : ℕ → B) (h : A → B) (xs : List A) (from : ℕ) → ((i k : ℕ) (x : A) → slice_get xs i ≡ Some x → k ≡ from + i → p k ≡ q x)
    → ((i k : ℕ) (x : A) → slice_get xs i ≡ Some x → k ≡ from + i → q x ≡ true → g k ≡ h x) → map g (filter p (range_with_len from (length xs))) ≡ map h (filter q xs)
kept_rows p q g h [] from same values = refl
kept_rows {B = B} p q g h (x ∷ xs) from same values =
    let test : p from ≡ q x = same 0 from x refl (omega arith) in
    let rest : map g (filter p (range_with_len (from + 1) (length xs))) ≡ map h (filter q xs) =
    kept_rows p q g h xs (from + 1) (λ i k z at is. same (suc i) k z at (omega (arith, is))) (λ i k z at is on. values (suc i) k z at (omega (arith, is)) on) in
    elim (cases_Bool (q x)) [
      | inl on ↦ rw (test, on) (ap (λ (y : B). y ∷ map g (filter p (range_with_len (from + 1) (length xs)))) (values 0 from x refl (omega arith) on) ∙ ap (λ (ys : List B). h x ∷ ys) rest)
      | inr off ↦ rw (test, off) rest
    ]

-- ---- names of files that pass a test

pub map_kept : {A B C : Type 0} (f : A → B) (q : B → Bool) (g : B → C) (xs : List A) → map g (filter q (map f xs)) ≡ map (λ x. g (f x)) (filter (λ x. q (f x)) xs)
map_kept f q g [] = refl
map_kept {C = C} f q g (x ∷ xs) = elim (cases_Bool (q (f x))) [
  | inl on ↦ rw on (ap (λ (ys : List C). g (f x) ∷ ys) (map_kept f q g xs))
  | inr off ↦ rw off (map_kept f q g xs)
]

pub given_kept : {A B C : Type 0} (f : A → B) (q : B → Bool) (w : B → Option C) (xs : List A) → filter_map w (filter q (map f xs)) ≡ filter_map (λ x. if q (f x) then w (f x) else None) xs
given_kept f q w [] = refl
given_kept {C = C} f q w (x ∷ xs) = elim (cases_Bool (q (f x))) [
  | inl on ↦ rw on (ap (λ (ys : List C). cons_option (w (f x)) ys) (given_kept f q w xs))
  | inr off ↦ rw off (given_kept f q w xs)
]

-- ---- a row more

pub given_more : {B : Type 0} (g : ℕ → Option B) (from n k : ℕ) → from + n ≡ k → filter_map g (range_with_len from (n + 1)) ≡ filter_map g (range_with_len from n) ++ cons_option (g k) []
given_more {B = B} g from zero k is =
    let same : from ≡ k = omega (arith, is) in
    ap (λ (j : ℕ). cons_option (g j) []) same
given_more {B = B} g from (suc n) k is =
    let size : suc n + 1 ≡ suc (n + 1) = omega arith in
    ap (λ (count : ℕ). filter_map g (range_with_len from count)) size
    ∙ (ap (λ (ys : List B). cons_option (g from) ys) (given_more g (from + 1) n k (omega (arith, is))) ∙ joined (g from))
  where
    joined : (x : Option B) → cons_option x (filter_map g (range_with_len (from + 1) n) ++ cons_option (g k) []) ≡ cons_option x (filter_map g (range_with_len (from + 1) n)) ++ cons_option (g k) []
    joined None = refl
    joined (Some y) = refl

pub column_more : {X : Type 0} (f : ℕ → X) (row : ℕ) (old new : List X) (x : X) → new ≡ old ++ x ∷ [] → x ≡ f row → old ≡ map f (range_with_len 0 row) → new ≡ map f (range_with_len 0 (row + 1))
column_more {X = X} f row old new x more is so_far =
    more ∙ (ap (λ (y : X). old ++ y ∷ []) is ∙ (ap (λ (ys : List X). ys ++ f row ∷ []) so_far ∙ sym (map-range_with_len_more f 0 row row (omega arith))))

pub given_column : {X : Type 0} (g : ℕ → Option X) (row : ℕ) (old new : List X) (x : Option X) → new ≡ old ++ cons_option x [] → x ≡ g row → old ≡ filter_map g (range_with_len 0 row) → new ≡ filter_map g (range_with_len 0 (row + 1))
given_column {X = X} g row old new x more is so_far =
    more ∙ (ap (λ (y : Option X). old ++ cons_option y []) is ∙ (ap (λ (ys : List X). ys ++ cons_option (g row) []) so_far ∙ sym (given_more g 0 row row (omega arith))))

-- of the rows that pass a test

kept_once : {B : Type 0} (p : ℕ → Bool) (g : ℕ → B) (row : ℕ) (b : Bool) → p row ≡ b → map g (filter p (range_with_len 0 (row + 1))) ≡ map g (filter p (range_with_len 0 row)) ++ (if b then g row ∷ [] else [])
kept_once {B = B} p g row b is =
    ap (λ (rows : List ℕ). map g (filter p rows)) (rows_more row)
    ∙ (ap (map g) (filter-append p (range_with_len 0 row) (row ∷ []))
    ∙ (map-append g (filter p (range_with_len 0 row)) (filter p (row ∷ []))
    ∙ ap (λ (ys : List B). map g (filter p (range_with_len 0 row)) ++ ys) (one b is)))
  where
    map_id : (xs : List ℕ) → map (λ (k : ℕ). k) xs ≡ xs
    map_id [] = refl
    map_id (x ∷ xs) = ap (λ (ys : List ℕ). x ∷ ys) (map_id xs)

    rows_more : (n : ℕ) → range_with_len 0 (n + 1) ≡ range_with_len 0 n ++ n ∷ []
    rows_more n = sym (map_id (range_with_len 0 (n + 1))) ∙ (map-range_with_len_more (λ (k : ℕ). k) 0 n n (omega arith) ∙ ap (λ (ks : List ℕ). ks ++ n ∷ []) (map_id (range_with_len 0 n)))

    one : (c : Bool) → p row ≡ c → map g (filter p (row ∷ [])) ≡ (if c then g row ∷ [] else [])
    one true on = rw on refl
    one false off = rw off refl

pub kept_more : {B : Type 0} (p : ℕ → Bool) (g : ℕ → B) (row : ℕ) (old new : List B) (x : B) → p row ≡ true → new ≡ old ++ x ∷ [] → x ≡ g row → old ≡ map g (filter p (range_with_len 0 row)) → new ≡ map g (filter p (range_with_len 0 (row + 1)))
kept_more {B = B} p g row old new x on more is so_far =
    more ∙ (ap (λ (y : B). old ++ y ∷ []) is ∙ (ap (λ (ys : List B). ys ++ g row ∷ []) so_far ∙ sym (kept_once p g row true on)))

pub kept_less : {B : Type 0} (p : ℕ → Bool) (g : ℕ → B) (row : ℕ) (old : List B) → p row ≡ false → old ≡ map g (filter p (range_with_len 0 row)) → old ≡ map g (filter p (range_with_len 0 (row + 1)))
kept_less p g row old off so_far = so_far ∙ (sym (append-nil (map g (filter p (range_with_len 0 row)))) ∙ sym (kept_once p g row false off))
