-- Words one after the other.
use Rattle.std.proofs.Common.{◌≡◌, ℕ, ◌+◌, List, ◌++◌, drop, refl, sym, ap, ◌∙◌}
use Rattle.std.proofs.lemmas.List.{drop-drop}
use Rattle.pl_base.specs.Bytes.{word32, word64, bytes32, bytes64}
use Rattle.pl_base.proofs.WordLaws.{length_bytes32, length_bytes64, word32_behind, word64_behind}

-- a word behind others
pub word32_drop : (front at : ℕ) (xs : List ℕ) → word32 (front + at) xs ≡ word32 at (drop front xs)
unfolding word32
word32_drop front at xs = rw (drop-drop at front xs) refl

pub word64_drop : (front at : ℕ) (xs : List ℕ) → word64 (front + at) xs ≡ word64 at (drop front xs)
unfolding word64
word64_drop front at xs = rw (drop-drop at front xs) refl

-- a word behind another is read as if it stood in front
pub behind32 : (at number : ℕ) (rest : List ℕ) → word32 (4 + at) (bytes32 number ++ rest) ≡ word32 at rest
behind32 at number rest = ap (λ (n : ℕ). word32 (n + at) (bytes32 number ++ rest)) (sym (length_bytes32 number)) ∙ word32_behind (bytes32 number) rest at

pub behind64 : (at number : ℕ) (rest : List ℕ) → word64 (8 + at) (bytes64 number ++ rest) ≡ word64 at rest
behind64 at number rest = ap (λ (n : ℕ). word64 (n + at) (bytes64 number ++ rest)) (sym (length_bytes64 number)) ∙ word64_behind (bytes64 number) rest at
