-- Loops over rows. x is the row at i, as a loop reads it; what is done and what the rest gives is the whole.
use Rattle.std.proofs.Common.{◌≡◌, ℕ, ◌+◌, ◌≤◌, ◌<◌, List, ◌++◌, sym, ap, ◌∙◌, append_assoc, length, drop, get_or}
use Rattle.std.specs.Prelude.{map}
use Rattle.std.specs.List.{concat}
use Rattle.std.proofs.lemmas.List.{append-nil, at_drop_more, at_drop_all}

-- the bytes of rows, one after the other
abbrev pub bytes_of : {X : Type 0} → (X → List ℕ) → List X → List ℕ
bytes_of f xs = concat (map f xs)

pub bytes_more : {X : Type 0} (f : X → List ℕ) (out new : List ℕ) (xs : List X) (i : ℕ) (d : X) (whole : List ℕ) → i < length xs → new ≡ out ++ f (get_or xs i d)
    → out ++ bytes_of f (drop i xs) ≡ whole → new ++ bytes_of f (drop (i + 1) xs) ≡ whole
bytes_more f out new xs i d whole lt step so_far =
    let x = get_or xs i d in
    let one : bytes_of f (drop i xs) ≡ f x ++ bytes_of f (drop (i + 1) xs) = at_drop_more (bytes_of f) xs i d lt in
    ap (λ (u : List ℕ). u ++ bytes_of f (drop (i + 1) xs)) step ∙ append_assoc out (f x) (bytes_of f (drop (i + 1) xs)) ∙ sym (ap (λ (u : List ℕ). out ++ u) one) ∙ so_far

pub bytes_done : {X : Type 0} (f : X → List ℕ) (out : List ℕ) (xs : List X) (i : ℕ) (whole : List ℕ) → length xs ≤ i → out ++ bytes_of f (drop i xs) ≡ whole → out ≡ whole
bytes_done f out xs i whole le so_far = sym (append-nil out) ∙ sym (ap (λ (u : List ℕ). out ++ u) (at_drop_all (bytes_of f) xs i le)) ∙ so_far
