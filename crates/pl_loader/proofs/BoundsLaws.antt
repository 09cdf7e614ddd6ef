-- The objects' bounds, one after the other.
use Rattle.std.proofs.Common.{◌≡◌, ℕ, zero, suc, ◌+◌, ◌<◌, ◌≤◌, List, [], ◌∷◌, ◌++◌, length, map, take, min, get_or, refl, sym, ap, ◌∙◌, arith}
use Rattle.std.specs.List.{AllZip, zip}
use Rattle.std.proofs.lemmas.List.{take_more, take_all, map_push}
use Rattle.std.proofs.lemmas.Slice.Zip.{length-zip, get_or-zip}
use Rattle.pl_loader.specs.Places.{IsAt}
use Rattle.pl_loader.specs.Started.{placed, placed_at, all_placed}
use Rattle.pl_loader.specs.declared.object_file.ObjectFile.{ObjectFile}
use Rattle.pl_loader.specs.declared.placed.Placed.{Placed}

at_index : (fs : List ObjectFile) (ps : List ℕ) (n : ℕ) (f : ObjectFile) (p : ℕ) → AllZip IsAt fs ps → n < length fs → IsAt (get_or fs n f) (get_or ps n p)
at_index [] ps n f p all lt = absurd (omega (arith, lt))
at_index (g ∷ fs) [] n f p all lt = absurd all
at_index (g ∷ fs) (q ∷ ps) zero f p all lt = all.0
at_index (g ∷ fs) (q ∷ ps) (suc n) f p all lt = at_index fs ps n f p all.1 (omega (arith, lt))

-- the object and the place of an index
pub at_turn : (fs : List ObjectFile) (ps : List ℕ) (n : ℕ) (f : ObjectFile) (p : ℕ) → AllZip IsAt fs ps → n < length fs → f ≡ get_or fs n f → p ≡ get_or ps n p → IsAt f p
at_turn fs ps n f p all lt file place =
    let at : IsAt (get_or fs n f) (get_or ps n p) = at_index fs ps n f p all lt in
    rw (sym file, sym place) at at

-- one more
pub placed_more : (fs : List ObjectFile) (ps : List ℕ) (n : ℕ) (f : ObjectFile) (p : ℕ) (before after : List Placed) → n < length fs → n < length ps → f ≡ get_or fs n f → p ≡ get_or ps n p
    → before ≡ map placed_at (take n (zip fs ps)) → after ≡ before ++ placed f p ∷ [] → after ≡ map placed_at (take (n + 1) (zip fs ps))
placed_more fs ps n f p before after lt_fs lt_ps file place so_far more =
    let within : n < length (zip fs ps) = omega (arith, length-zip fs ps) in
    let at : get_or (zip fs ps) n (f, p) ≡ (f, p) = get_or-zip fs ps n (f, p) lt_fs lt_ps ∙ sym (ap (λ (g : ObjectFile). (g, get_or ps n p)) file ∙ ap (λ (q : ℕ). (get_or fs n f, q)) refl) ∙ ap (λ (q : ℕ). (f, q)) (sym place) in
    let front : take (n + 1) (zip fs ps) ≡ take n (zip fs ps) ++ (f, p) ∷ [] = take_more (zip fs ps) n (f, p) within ∙ ap (λ (x : ObjectFile × ℕ). take n (zip fs ps) ++ x ∷ []) at in
    more ∙ ap (λ (xs : List Placed). xs ++ placed f p ∷ []) so_far ∙ sym (map_push placed_at (take n (zip fs ps)) (f, p)) ∙ ap (map placed_at) (sym front)

-- all
pub placed_done : (fs : List ObjectFile) (ps : List ℕ) (n : ℕ) (all : List Placed) → n ≡ min (length fs) (length ps) → all ≡ map placed_at (take n (zip fs ps)) → all ≡ all_placed fs ps
unfolding all_placed
placed_done fs ps n all count so_far =
    let le : length (zip fs ps) ≤ n = omega (arith, length-zip fs ps, count) in
    so_far ∙ ap (map placed_at) (take_all n (zip fs ps) le)
