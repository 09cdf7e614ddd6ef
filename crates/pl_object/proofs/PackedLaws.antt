-- The relocations of packed places, one after the other.
use Rattle.std.proofs.Common.{◌≡◌, ℕ, ◌+◌, ◌<◌, List, [], ◌∷◌, ◌++◌, append_assoc, length, map, get_or, take, sym, ap, ◌∙◌}
use Rattle.std.proofs.lemmas.List.{map-append, take_more}
use Rattle.pl_object.specs.declared.reloc.Reloc.{Reloc}

pub packed_more : (f : ℕ → Reloc) (old front new : List Reloc) (xs : List ℕ) (i x other : ℕ) → i < length xs → x ≡ get_or xs i other → new ≡ front ++ f x ∷ [] → front ≡ old ++ map f (take i xs) → new ≡ old ++ map f (take (i + 1) xs)
packed_more f old front new xs i x other lt is pushed so_far =
    let step : take i xs ++ x ∷ [] ≡ take (i + 1) xs = ap (λ (y : ℕ). take i xs ++ y ∷ []) is ∙ sym (take_more xs i other lt) in
    pushed
    ∙ ap (λ (rs : List Reloc). rs ++ f x ∷ []) so_far
    ∙ append_assoc old (map f (take i xs)) (f x ∷ [])
    ∙ ap (λ (rs : List Reloc). old ++ rs) (sym (map-append f (take i xs) (x ∷ [])) ∙ ap (map f) step)
