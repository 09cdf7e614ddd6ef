-- A number's digits, one more from the left.
use Rattle.std.proofs.Common.{◌≡◌, ◌<◌, ℕ, zero, suc, ◌-◌, ◌*◌, ◌/◌, ◌%◌, ◌^◌, List, [], ◌∷◌, ◌++◌, append_assoc, arith}
use Rattle.pl_base.specs.Digits.{hex_digit, hex_digits}

-- a digit written from the left
pub hex_step : (k n : ℕ) (xs : List ℕ) → 0 < k → (xs ++ hex_digit (n / 2 ^ (4 * (k - 1)) % 16) ∷ []) ++ hex_digits (k - 1) n ≡ xs ++ hex_digits k n
unfolding hex_digits
hex_step zero n xs h = absurd (omega arith)
hex_step (suc k) n xs h =
    let e : suc k - 1 ≡ k = omega arith in
    rw e (simp append_assoc)
