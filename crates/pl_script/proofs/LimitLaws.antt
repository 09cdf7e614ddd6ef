-- The index of the first line that is wrong.
use Rattle.std.proofs.Common.{◌≡◌, ◌∙◌, ◌<◌, ℕ, zero, suc, Bool, true, false, refl, sym, arith, List, [], ◌∷◌, Option, Some, None, length, take}
use Rattle.std.specs.Prelude.{IfSome, find, slice_get}
use Rattle.std.specs.List.{range_with_len}
use Rattle.std.proofs.lemmas.Bool.{false≢true}
use Rattle.pl_base.proofs.FindLaws.{find_passes}
use Rattle.pl_script.specs.declared.line.Line.{Line}
use Rattle.pl_script.specs.Limits.{first_wrong, is_wrong_at, is_wrong_in, loaders}

-- a row that there is has an index below their count
get_within : {X : Type 0} (p : Option X → Bool) → p None ≡ false → (xs : List X) (i : ℕ) → p (slice_get xs i) ≡ true → i < length xs
get_within p none [] i yes_p = absurd (false≢true (sym none ∙ yes_p))
get_within p none (x ∷ xs) zero yes_p = omega arith
get_within p none (x ∷ xs) (suc i) yes_p = omega (arith, get_within p none xs i yes_p)

wrong_within : (made : ℕ) (lines : List Line) (i : ℕ) → is_wrong_at made lines i ≡ true → i < length lines
unfolding is_wrong_at
wrong_within made lines i wrong = get_within (is_wrong_in made (take i lines)) refl lines i wrong

found_in : (lines : List Line) (found : Option ℕ) → find (is_wrong_at (loaders lines) lines) (range_with_len 0 (length lines)) ≡ found → IfSome found (λ i. i < length lines)
found_in lines None is = tt
found_in lines (Some i) is = wrong_within (loaders lines) lines i (find_passes (is_wrong_at (loaders lines) lines) (range_with_len 0 (length lines)) i is)

-- the first line that is wrong is one of the lines
pub found_within : (lines : List Line) → IfSome (first_wrong lines) (λ i. i < length lines)
unfolding first_wrong
found_within lines = found_in lines (find (is_wrong_at (loaders lines) lines) (range_with_len 0 (length lines))) refl
