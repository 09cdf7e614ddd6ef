-- Lists that are made row by row of another list.
use Rattle.std.proofs.Common.{◌≡◌, ℕ, ◌+◌, ◌<◌, ◌≤◌, List, [], ◌∷◌, ◌++◌, length, map, get_or, drop, refl, sym, ap, ◌∙◌, append_assoc}
use Rattle.std.specs.List.{All}
use Rattle.std.proofs.lemmas.List.Elements.{All-head, All-tail, All-nil, All-cons}
use Rattle.std.proofs.lemmas.List.{append-nil, map-append, at_drop_more, at_drop_all}

module _ {X Y Z : Type 0} (f : X → Z) (g : Y → Z) where
  -- a row more
  pub mapped_more : (ys : List Y) (i : ℕ) (d : Y) (xs pushed : List X) (x : X) (whole : List Z) → i < length ys → pushed ≡ xs ++ x ∷ [] → f x ≡ g (get_or ys i d) → map f xs ++ map g (drop i ys) ≡ whole → map f pushed ++ map g (drop (i + 1) ys) ≡ whole
  mapped_more ys i d xs pushed x whole lt push is so_far =
      let rest : List Z = map g (drop (i + 1) ys) in
      ap (λ (zs : List X). map f zs ++ rest) push
      ∙ (ap (λ (zs : List Z). zs ++ rest) (map-append f xs (x ∷ []))
      ∙ (append_assoc (map f xs) (f x ∷ []) rest
      ∙ (ap (λ (z : Z). map f xs ++ (z ∷ rest)) is
      ∙ (sym (ap (λ (zs : List Z). map f xs ++ zs) (at_drop_more (map g) ys i d lt)) ∙ so_far))))

  -- all rows
  pub mapped_all : (ys : List Y) (i : ℕ) (xs : List X) (whole : List Z) → length ys ≤ i → map f xs ++ map g (drop i ys) ≡ whole → map f xs ≡ whole
  mapped_all ys i xs whole le so_far =
      sym (append-nil (map f xs)) ∙ (sym (ap (λ (zs : List Z). map f xs ++ zs) (at_drop_all (map g) ys i le)) ∙ so_far)

-- a map of a map
pub fused : {X Y Z : Type 0} (f : X → Y) (g : Y → Z) (xs : List X) → map g (map f xs) ≡ map (λ x. g (f x)) xs
fused f g [] = refl
fused {Z = Z} f g (x ∷ xs) = ap (λ (zs : List Z). g (f x) ∷ zs) (fused f g xs)

-- what holds of what rows are mapped to
pub all_mapped : {X Y : Type 0} (P : Y → Type 0) (f : X → Y) (xs : List X) → All (λ x. P (f x)) xs → All P (map f xs)
all_mapped P f [] all = All-nil P
all_mapped P f (x ∷ xs) all = All-cons P (f x) (map f xs) (All-head (λ y. P (f y)) x xs all) (all_mapped P f xs (All-tail (λ y. P (f y)) x xs all))
