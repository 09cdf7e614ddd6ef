-- Loops over rows. x is the row at i, as a loop reads it; what is done and what the rest gives is the whole.
use Rattle.std.proofs.Common.{◌≡◌, ℕ, ◌+◌, ◌≤◌, ◌<◌, List, [], ◌∷◌, ◌++◌, refl, sym, ap, ◌∙◌, append_assoc, arith, length, drop, take, get_or, Bool, true, false, inl, inr}
use Rattle.std.proofs.lemmas.Bool.{cases_Bool}
use Rattle.pl_base.specs.Each.{run}
use Rattle.pl_base.proofs.RunLaws.{run_fails}
use Rattle.pl_build.specs.declared.line.SymbolLine.{SymbolLine}
use Rattle.pl_build.specs.Symbols.{kept}
use Rattle.std.specs.Prelude.{cond, IfSome, Option, Some, None, Result, Err}
use Rattle.std.specs.List.{fold, filter, flat_map, range_with_len}
use Rattle.std.proofs.lemmas.List.{append-nil, at_drop_more, at_drop_all, take_more}
use Rattle.std.proofs.lemmas.List.Sums.{fold-append}
use Rattle.std.proofs.lemmas.List.FromFn.{length-range_with_len, get_or-range_with_len}

-- nothing more
pub with_none : {X : Type 0} (xs : List X) → xs ≡ xs ++ []
with_none xs = sym (append-nil xs)

-- ---- a state that each row changes

pub fold_more : {S A : Type 0} (f : S → A → S) (s t : S) (xs : List A) (i : ℕ) (x : A) (whole : S) → i < length xs → x ≡ get_or xs i x → t ≡ f s x
    → fold f s (drop i xs) ≡ whole → fold f t (drop (i + 1) xs) ≡ whole
fold_more {S = S} f s t xs i x whole lt is step so_far =
    let one : fold f s (drop i xs) ≡ fold f (f s x) (drop (i + 1) xs) = at_drop_more (fold f s) xs i x lt ∙ rw (← is) refl in
    ap (λ (u : S). fold f u (drop (i + 1) xs)) step ∙ sym one ∙ so_far

pub fold_done : {S A : Type 0} (f : S → A → S) (s : S) (xs : List A) (i : ℕ) (whole : S) → length xs ≤ i → fold f s (drop i xs) ≡ whole → s ≡ whole
fold_done f s xs i whole le so_far = sym (at_drop_all (fold f s) xs i le) ∙ so_far

-- the same where the loop takes the rows over
pub fold_taken : {S A : Type 0} (f : S → A → S) (first s t : S) (xs : List A) (i : ℕ) (x : A) → i < length xs → x ≡ get_or xs i x → t ≡ f s x
    → s ≡ fold f first (take i xs) → t ≡ fold f first (take (i + 1) xs)
fold_taken {S = S} f first s t xs i x lt is step so_far =
    step ∙ ap (λ (u : S). f u x) so_far ∙ ap (f (fold f first (take i xs))) is
    ∙ sym (fold-append f first (take i xs) (get_or xs i x ∷ [])) ∙ ap (fold f first) (sym (take_more xs i x lt))

-- a step that tells a fault, or a want of memory, ends the loop
pub run_tells : {S A E F : Type 0} (told : E → Option F) (f : S → A → Result S F) (s : S) (xs : List A) (i : ℕ) (x : A) (e : E) (whole : Result S F) → i < length xs → x ≡ get_or xs i x → IfSome (told e) (λ fault. f s x ≡ Err fault)
    → run f s (drop i xs) ≡ whole → IfSome (told e) (λ fault. whole ≡ Err fault)
run_tells {F = F} told f s xs i x e whole lt is h so_far =
    elim (told e) as (λ t. IfSome t (λ (fault : F). f s x ≡ Err fault) → IfSome t (λ (fault : F). whole ≡ Err fault)) [
      | None ↦ λ _. tt
      | Some fault ↦ λ stop. run_fails (λ _. false) f s xs i x fault whole lt is stop so_far
    ] h

-- ---- a list to which each row adds some

pub flat_map_more : {X A : Type 0} (f : X → List A) (out new : List A) (xs : List X) (i : ℕ) (x : X) (whole : List A) → i < length xs → x ≡ get_or xs i x → new ≡ out ++ f x
    → out ++ flat_map f (drop i xs) ≡ whole → new ++ flat_map f (drop (i + 1) xs) ≡ whole
flat_map_more {A = A} f out new xs i x whole lt is step so_far =
    let one : flat_map f (drop i xs) ≡ f x ++ flat_map f (drop (i + 1) xs) = at_drop_more (flat_map f) xs i x lt ∙ rw (← is) refl in
    ap (λ (u : List A). u ++ flat_map f (drop (i + 1) xs)) step ∙ append_assoc out (f x) (flat_map f (drop (i + 1) xs)) ∙ sym (ap (λ (u : List A). out ++ u) one) ∙ so_far

pub flat_map_done : {X A : Type 0} (f : X → List A) (out : List A) (xs : List X) (i : ℕ) (whole : List A) → length xs ≤ i → out ++ flat_map f (drop i xs) ≡ whole → out ≡ whole
flat_map_done {A = A} f out xs i whole le so_far =
    sym (append-nil out) ∙ sym (ap (λ (u : List A). out ++ u) (at_drop_all (flat_map f) xs i le)) ∙ so_far

-- the same over the numbers below n

pub numbers_more : {A : Type 0} (f : ℕ → List A) (out new : List A) (n i : ℕ) (whole : List A) → i < n → new ≡ out ++ f i
    → out ++ flat_map f (drop i (range_with_len 0 n)) ≡ whole → new ++ flat_map f (drop (i + 1) (range_with_len 0 n)) ≡ whole
numbers_more f out new n i whole lt step so_far =
    flat_map_more f out new (range_with_len 0 n) i i whole (omega (arith, length-range_with_len 0 n)) (sym (get_or-range_with_len 0 n i i lt ∙ omega arith)) step so_far

pub numbers_done : {A : Type 0} (f : ℕ → List A) (out : List A) (n i : ℕ) (whole : List A) → n ≤ i → out ++ flat_map f (drop i (range_with_len 0 n)) ≡ whole → out ≡ whole
numbers_done f out n i whole le so_far = flat_map_done f out (range_with_len 0 n) i whole (omega (arith, length-range_with_len 0 n)) so_far

-- ---- a list to which the rows that pass are added

passed : {X : Type 0} (p : X → Bool) (xs : List X) (i : ℕ) (x : X) → i < length xs → x ≡ get_or xs i x → filter p (drop i xs) ≡ cond (p x) (x ∷ filter p (drop (i + 1) xs)) (filter p (drop (i + 1) xs))
passed p xs i x lt is = at_drop_more (filter p) xs i x lt ∙ rw (← is) refl

pub filter_more : {X : Type 0} (p : X → Bool) (out : List X) (xs : List X) (i : ℕ) (x : X) (whole : List X) → i < length xs → x ≡ get_or xs i x → p x ≡ true
    → out ++ filter p (drop i xs) ≡ whole → (out ++ x ∷ []) ++ filter p (drop (i + 1) xs) ≡ whole
filter_more {X = X} p out xs i x whole lt is passes so_far =
    let one : filter p (drop i xs) ≡ x ∷ filter p (drop (i + 1) xs) = passed p xs i x lt is ∙ rw passes refl in
    append_assoc out (x ∷ []) (filter p (drop (i + 1) xs)) ∙ sym (ap (λ (u : List X). out ++ u) one) ∙ so_far

pub filter_less : {X : Type 0} (p : X → Bool) (out : List X) (xs : List X) (i : ℕ) (x : X) (whole : List X) → i < length xs → x ≡ get_or xs i x → p x ≡ false
    → out ++ filter p (drop i xs) ≡ whole → out ++ filter p (drop (i + 1) xs) ≡ whole
filter_less {X = X} p out xs i x whole lt is miss so_far =
    let one : filter p (drop i xs) ≡ filter p (drop (i + 1) xs) = passed p xs i x lt is ∙ rw miss refl in
    sym (ap (λ (u : List X). out ++ u) one) ∙ so_far

-- a row that is kept where it passes
pub kept_more : (p : SymbolLine → Bool) (out new : List SymbolLine) (xs : List SymbolLine) (i : ℕ) (x : SymbolLine) (whole : List SymbolLine) → i < length xs → x ≡ get_or xs i x → new ≡ kept (p x) x out
    → out ++ filter p (drop i xs) ≡ whole → new ++ filter p (drop (i + 1) xs) ≡ whole
kept_more p out new xs i x whole lt is step so_far =
    elim (cases_Bool (p x)) [
      | inl passes ↦ ap (λ (u : List SymbolLine). u ++ filter p (drop (i + 1) xs)) (step ∙ ap (λ (b : Bool). kept b x out) passes) ∙ filter_more p out xs i x whole lt is passes so_far
      | inr miss ↦ ap (λ (u : List SymbolLine). u ++ filter p (drop (i + 1) xs)) (step ∙ ap (λ (b : Bool). kept b x out) miss) ∙ filter_less p out xs i x whole lt is miss so_far
    ]

pub filter_done : {X : Type 0} (p : X → Bool) (out : List X) (xs : List X) (i : ℕ) (whole : List X) → length xs ≤ i → out ++ filter p (drop i xs) ≡ whole → out ≡ whole
filter_done {X = X} p out xs i whole le so_far =
    sym (append-nil out) ∙ sym (ap (λ (u : List X). out ++ u) (at_drop_all (filter p) xs i le)) ∙ so_far
