-- A loop over the objects of a scope that loads each at its place.
use Rattle.std.proofs.Common.{◌≡◌, ℕ, ◌+◌, ◌≤◌, List, [], ◌∷◌, ◌++◌, length, drop, Some, sym, ap, subst, ◌∙◌, append_assoc}
use Rattle.std.specs.Prelude.{slice_get}
use Rattle.std.proofs.lemmas.List.{append-nil, at_drop_more, at_drop_all}
use Rattle.std.proofs.lemmas.Option.{slice_get_within, get_or_from_slice_get}
use Rattle.pl_object.specs.declared.object.Object.{Object}
use Rattle.pl_image.specs.Loads.{loaded_at, IsPlaced}
use Rattle.pl_image.specs.declared.loaded_object.LoadedObject.{LoadedObject}
use Rattle.pl_value.specs.Targets.{base_of}
use Rattle.pl_value.specs.Ordinary.{part_of, loaded_from, ArePlaced}

pub placed_at : (os : List Object) (places : List ℕ) (parts : List (List ℕ)) (i : ℕ) (o : Object) → ArePlaced places parts os → slice_get os i ≡ Some o → IsPlaced (base_of places i) o
placed_at os places parts i o are e =
    subst (λ (p : Object). IsPlaced (base_of places i) p) (get_or_from_slice_get os i o o e) (are.placed i o (slice_get_within os i o e))

pub loaded_more : (os : List Object) (places : List ℕ) (parts : List (List ℕ)) (i : ℕ) (o : Object) → slice_get os i ≡ Some o
    → loaded_from places parts i (drop i os) ≡ loaded_at (base_of places i) (part_of parts i) o ∷ loaded_from places parts (i + 1) (drop (i + 1) os)
unfolding loaded_from
loaded_more os places parts i o e =
    at_drop_more (loaded_from places parts i) os i o (slice_get_within os i o e)
    ∙ ap (λ (p : Object). loaded_at (base_of places i) (part_of parts i) p ∷ loaded_from places parts (i + 1) (drop (i + 1) os)) (get_or_from_slice_get os i o o e)

pub loaded_done : (os : List Object) (places : List ℕ) (parts : List (List ℕ)) (i : ℕ) → length os ≤ i → loaded_from places parts i (drop i os) ≡ []
unfolding loaded_from
loaded_done os places parts i le = at_drop_all (loaded_from places parts i) os i le

-- one object more
pub loaded_step : (os : List Object) (places : List ℕ) (parts : List (List ℕ)) (i : ℕ) (o : Object) (front new whole : List LoadedObject) (x : LoadedObject) → slice_get os i ≡ Some o → x ≡ loaded_at (base_of places i) (part_of parts i) o → new ≡ front ++ x ∷ []
    → front ++ loaded_from places parts i (drop i os) ≡ whole → new ++ loaded_from places parts (i + 1) (drop (i + 1) os) ≡ whole
loaded_step os places parts i o front new whole x e loads more so_far =
    let rest = loaded_from places parts (i + 1) (drop (i + 1) os) in
    ap (λ (ls : List LoadedObject). ls ++ rest) more ∙ append_assoc front (x ∷ []) rest ∙ ap (λ (l : LoadedObject). front ++ l ∷ rest) loads
    ∙ ap (λ (ls : List LoadedObject). front ++ ls) (sym (loaded_more os places parts i o e)) ∙ so_far

-- none is left
pub loaded_whole : (os : List Object) (places : List ℕ) (parts : List (List ℕ)) (i : ℕ) (front whole : List LoadedObject) → length os ≤ i → front ++ loaded_from places parts i (drop i os) ≡ whole → front ≡ whole
loaded_whole os places parts i front whole le so_far = sym (append-nil front) ∙ ap (λ (ls : List LoadedObject). front ++ ls) (sym (loaded_done os places parts i le)) ∙ so_far
