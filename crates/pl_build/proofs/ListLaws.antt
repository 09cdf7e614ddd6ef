-- Loops that add to a list what each row gives. x is the row at i, as a loop reads it.
use Rattle.std.proofs.Common.{◌≡◌, ℕ, ◌+◌, ◌<◌, ◌≤◌, Bool, true, false, List, [], ◌∷◌, ◌++◌, refl, sym, ap, ◌∙◌, append_assoc, length, drop, get_or, map, inl, inr}
use Rattle.std.specs.Prelude.{filter}
use Rattle.std.specs.List.{flat_map}
use Rattle.std.proofs.lemmas.Bool.{cases_Bool}
use Rattle.std.proofs.lemmas.List.{append-nil, at_drop_more, at_drop_all}
use Rattle.pl_build.specs.Choices.{chosen}
use Rattle.pl_build.specs.Fields.{fields, field_bytes}
use Rattle.pl_build.specs.declared.fields.Field.{Field}
use Rattle.pl_build.proofs.LoopLaws.{filter_more, filter_less}

-- g gives a list of rows, row by row
pub given_more : {X A : Type 0} (g : List X → List A) (parts : (x : X) (xs : List X) → g (x ∷ xs) ≡ g (x ∷ []) ++ g xs) (out new : List A) (xs : List X) (i : ℕ) (x : X) (whole : List A) → i < length xs → x ≡ get_or xs i x → new ≡ out ++ g (x ∷ [])
    → out ++ g (drop i xs) ≡ whole → new ++ g (drop (i + 1) xs) ≡ whole
given_more {A = A} g parts out new xs i x whole lt is step so_far =
    let one : g (drop i xs) ≡ g (x ∷ []) ++ g (drop (i + 1) xs) = at_drop_more g xs i x lt ∙ rw (← is) (parts x (drop (i + 1) xs)) in
    ap (λ (u : List A). u ++ g (drop (i + 1) xs)) step ∙ append_assoc out (g (x ∷ [])) (g (drop (i + 1) xs)) ∙ sym (ap (λ (u : List A). out ++ u) one) ∙ so_far

pub given_done : {X A : Type 0} (g : List X → List A) (out : List A) (xs : List X) (i : ℕ) (whole : List A) → g [] ≡ [] → length xs ≤ i → out ++ g (drop i xs) ≡ whole → out ≡ whole
given_done {A = A} g out xs i whole none le so_far =
    sym (append-nil out) ∙ ap (λ (u : List A). out ++ u) (sym none ∙ sym (at_drop_all g xs i le)) ∙ so_far

-- ---- one row for each

pub map_more : {X A : Type 0} (f : X → A) (out new : List A) (xs : List X) (i : ℕ) (x : X) (whole : List A) → i < length xs → x ≡ get_or xs i x → new ≡ out ++ f x ∷ []
    → out ++ map f (drop i xs) ≡ whole → new ++ map f (drop (i + 1) xs) ≡ whole
map_more f out new xs i x whole lt is step so_far = given_more (map f) (λ y ys. refl) out new xs i x whole lt is step so_far

pub map_done : {X A : Type 0} (f : X → A) (out : List A) (xs : List X) (i : ℕ) (whole : List A) → length xs ≤ i → out ++ map f (drop i xs) ≡ whole → out ≡ whole
map_done f out xs i whole le so_far = given_done (map f) out xs i whole refl le so_far

-- ---- the bytes of a row for each

pub rows_more : {X R : Type 0} (row : X → R) (bytes : R → List ℕ) (out new : List ℕ) (xs : List X) (i : ℕ) (x : X) (whole : List ℕ) → i < length xs → x ≡ get_or xs i x → new ≡ out ++ bytes (row x)
    → out ++ flat_map bytes (map row (drop i xs)) ≡ whole → new ++ flat_map bytes (map row (drop (i + 1) xs)) ≡ whole
rows_more {X = X} row bytes out new xs i x whole lt is step so_far =
    given_more (λ (l : List X). flat_map bytes (map row l)) (λ y ys. ap (λ (u : List ℕ). u ++ flat_map bytes (map row ys)) (sym (append-nil (bytes (row y))))) out new xs i x whole lt is
    (step ∙ ap (λ (u : List ℕ). out ++ u) (sym (append-nil (bytes (row x))))) so_far

pub rows_done : {X R : Type 0} (row : X → R) (bytes : R → List ℕ) (out : List ℕ) (xs : List X) (i : ℕ) (whole : List ℕ) → length xs ≤ i → out ++ flat_map bytes (map row (drop i xs)) ≡ whole → out ≡ whole
rows_done {X = X} row bytes out xs i whole le so_far = given_done (λ (l : List X). flat_map bytes (map row l)) out xs i whole refl le so_far

pub fields_more : {X : Type 0} (f : X → Field) (out new : List ℕ) (xs : List X) (i : ℕ) (x : X) (whole : List ℕ) → i < length xs → x ≡ get_or xs i x → new ≡ out ++ fields (f x ∷ [])
    → out ++ fields (map f (drop i xs)) ≡ whole → new ++ fields (map f (drop (i + 1) xs)) ≡ whole
unfolding fields
fields_more {X = X} f out new xs i x whole lt is step so_far =
    rows_more f field_bytes out new xs i x whole lt is (step ∙ ap (λ (u : List ℕ). out ++ u) (append-nil (field_bytes (f x)))) so_far

pub fields_done : {X : Type 0} (f : X → Field) (out : List ℕ) (xs : List X) (i : ℕ) (whole : List ℕ) → length xs ≤ i → out ++ fields (map f (drop i xs)) ≡ whole → out ≡ whole
unfolding fields
fields_done f out xs i whole le so_far = rows_done f field_bytes out xs i whole le so_far

-- ---- one row for each that passes

pub picked_more : {X A : Type 0} (p : X → Bool) (f : X → A) (out new : List A) (xs : List X) (i : ℕ) (x : X) (whole : List A) → i < length xs → x ≡ get_or xs i x → p x ≡ true → new ≡ out ++ f x ∷ []
    → out ++ map f (filter p (drop i xs)) ≡ whole → new ++ map f (filter p (drop (i + 1) xs)) ≡ whole
picked_more {X = X} {A = A} p f out new xs i x whole lt is passes step so_far =
    let rest : List X = filter p (drop (i + 1) xs) in
    let one : x ∷ rest ≡ filter p (drop i xs) = filter_more p [] xs i x (filter p (drop i xs)) lt is passes refl in
    ap (λ (u : List A). u ++ map f rest) step ∙ append_assoc out (f x ∷ []) (map f rest) ∙ ap (λ (l : List X). out ++ map f l) one ∙ so_far

pub picked_less : {X A : Type 0} (p : X → Bool) (f : X → A) (out : List A) (xs : List X) (i : ℕ) (x : X) (whole : List A) → i < length xs → x ≡ get_or xs i x → p x ≡ false
    → out ++ map f (filter p (drop i xs)) ≡ whole → out ++ map f (filter p (drop (i + 1) xs)) ≡ whole
picked_less {X = X} p f out xs i x whole lt is miss so_far =
    ap (λ (l : List X). out ++ map f l) (filter_less p [] xs i x (filter p (drop i xs)) lt is miss refl) ∙ so_far

pub picked_done : {X A : Type 0} (p : X → Bool) (f : X → A) (out : List A) (xs : List X) (i : ℕ) (whole : List A) → length xs ≤ i → out ++ map f (filter p (drop i xs)) ≡ whole → out ≡ whole
picked_done {X = X} p f out xs i whole le so_far = given_done (λ (l : List X). map f (filter p l)) out xs i whole refl le so_far

-- ---- the bytes of a row for each that passes

pub passing_more : {X R : Type 0} (p : X → Bool) (row : X → R) (bytes : R → List ℕ) (out new : List ℕ) (xs : List X) (i : ℕ) (x : X) (whole : List ℕ) → i < length xs → x ≡ get_or xs i x → p x ≡ true → new ≡ out ++ bytes (row x)
    → out ++ flat_map bytes (map row (filter p (drop i xs))) ≡ whole → new ++ flat_map bytes (map row (filter p (drop (i + 1) xs))) ≡ whole
passing_more {X = X} p row bytes out new xs i x whole lt is passes step so_far =
    let rest : List X = filter p (drop (i + 1) xs) in
    let one : x ∷ rest ≡ filter p (drop i xs) = filter_more p [] xs i x (filter p (drop i xs)) lt is passes refl in
    ap (λ (u : List ℕ). u ++ flat_map bytes (map row rest)) step ∙ append_assoc out (bytes (row x)) (flat_map bytes (map row rest))
    ∙ ap (λ (l : List X). out ++ flat_map bytes (map row l)) one ∙ so_far

pub passing_less : {X R : Type 0} (p : X → Bool) (row : X → R) (bytes : R → List ℕ) (out : List ℕ) (xs : List X) (i : ℕ) (x : X) (whole : List ℕ) → i < length xs → x ≡ get_or xs i x → p x ≡ false
    → out ++ flat_map bytes (map row (filter p (drop i xs))) ≡ whole → out ++ flat_map bytes (map row (filter p (drop (i + 1) xs))) ≡ whole
passing_less {X = X} p row bytes out xs i x whole lt is miss so_far =
    ap (λ (l : List X). out ++ flat_map bytes (map row l)) (filter_less p [] xs i x (filter p (drop i xs)) lt is miss refl) ∙ so_far

pub passing_done : {X R : Type 0} (p : X → Bool) (row : X → R) (bytes : R → List ℕ) (out : List ℕ) (xs : List X) (i : ℕ) (whole : List ℕ) → length xs ≤ i → out ++ flat_map bytes (map row (filter p (drop i xs))) ≡ whole → out ≡ whole
passing_done {X = X} p row bytes out xs i whole le so_far = given_done (λ (l : List X). flat_map bytes (map row (filter p l))) out xs i whole refl le so_far

-- ---- rows that may be there

chosen_parts : {T : Type 0} (x : Bool × T) (xs : List (Bool × T)) → chosen (x ∷ xs) ≡ chosen (x ∷ []) ++ chosen xs
unfolding chosen
chosen_parts x xs = elim (cases_Bool x.0) [
  | inl there ↦ rw there refl
  | inr gone ↦ rw gone refl
]

pub chosen_more : {T : Type 0} (out new : List T) (xs : List (Bool × T)) (i : ℕ) (x : Bool × T) (whole : List T) → i < length xs → x ≡ get_or xs i x → new ≡ out ++ chosen (x ∷ [])
    → out ++ chosen (drop i xs) ≡ whole → new ++ chosen (drop (i + 1) xs) ≡ whole
chosen_more out new xs i x whole lt is step so_far = given_more chosen chosen_parts out new xs i x whole lt is step so_far

pub chosen_done : {T : Type 0} (out : List T) (xs : List (Bool × T)) (i : ℕ) (whole : List T) → length xs ≤ i → out ++ chosen (drop i xs) ≡ whole → out ≡ whole
unfolding chosen
chosen_done out xs i whole le so_far = given_done chosen out xs i whole refl le so_far
