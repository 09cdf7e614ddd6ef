-- Loops that add a word for each number.
use Rattle.std.proofs.Common.{◌≡◌, ℕ, ◌+◌, ◌<◌, ◌≤◌, List, [], ◌∷◌, ◌++◌, refl, sym, ap, ◌∙◌, drop, map}
use Rattle.std.specs.List.{flat_map, range_with_len}
use Rattle.std.proofs.lemmas.List.{append-nil}
use Rattle.pl_build.specs.declared.fields.Field.TheVariants.{Word}
use Rattle.pl_build.specs.Fields.{fields, field_bytes}
use Rattle.pl_build.proofs.LoopLaws.{numbers_more, numbers_done}

abbrev word : (ℕ → ℕ) → ℕ → List ℕ
word f k = fields (Word (f k) ∷ [])

word_by_word : (f : ℕ → ℕ) (ks : List ℕ) → fields (map (λ k. Word (f k)) ks) ≡ flat_map (word f) ks
unfolding fields
word_by_word f [] = refl
word_by_word f (k ∷ ks) =
    ap (λ (l : List ℕ). field_bytes (Word (f k)) ++ l) (word_by_word f ks)
    ∙ ap (λ (l : List ℕ). l ++ flat_map (word f) ks) (sym (append-nil (field_bytes (Word (f k)))))

pub words_more : (f : ℕ → ℕ) (out new : List ℕ) (n i : ℕ) (whole : List ℕ) → i < n → new ≡ out ++ fields (Word (f i) ∷ [])
    → out ++ fields (map (λ k. Word (f k)) (drop i (range_with_len 0 n))) ≡ whole → new ++ fields (map (λ k. Word (f k)) (drop (i + 1) (range_with_len 0 n))) ≡ whole
words_more f out new n i whole lt step so_far =
    ap (λ (l : List ℕ). new ++ l) (word_by_word f (drop (i + 1) (range_with_len 0 n)))
    ∙ numbers_more (word f) out new n i whole lt step (ap (λ (l : List ℕ). out ++ l) (sym (word_by_word f (drop i (range_with_len 0 n)))) ∙ so_far)

pub words_done : (f : ℕ → ℕ) (out : List ℕ) (n i : ℕ) (whole : List ℕ) → n ≤ i → out ++ fields (map (λ k. Word (f k)) (drop i (range_with_len 0 n))) ≡ whole → out ≡ whole
words_done f out n i whole le so_far =
    numbers_done (word f) out n i whole le (ap (λ (l : List ℕ). out ++ l) (sym (word_by_word f (drop i (range_with_len 0 n)))) ∙ so_far)
