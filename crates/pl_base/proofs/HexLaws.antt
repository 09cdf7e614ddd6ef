-- The 16 digits of a number are what `{:016x}` writes.
use Rattle.std.proofs.Common.{◌≡◌, ℕ, zero, suc, ◌+◌, ◌-◌, ◌*◌, ◌/◌, ◌%◌, ◌^◌, ◌<◌, ◌≤◌, false, List, [], ◌∷◌, ◌++◌, length, replicate, refl, sym, ap, ◌∙◌, append_assoc, arith, inl, inr}
use Rattle.std.specs.Prelude.{◌==◌}
use Rattle.std.specs.Fmt.{digits, digits_onto, digit_glyph, padded_integral, format_spec, char_count}
use Rattle.std.proofs.lemmas.Bool.{cases_Bool}
use Rattle.std.proofs.lemmas.Bool.Decides.{nat_tests}
use Rattle.std.proofs.lemmas.List.{append-nil}
use Rattle.std.proofs.lemmas.Nat.{pow-add}
use Rattle.std.proofs.Math.Nat.{div-div-eq-div-mul, div-one, zero-div}
use Rattle.pl_base.specs.Digits.{hex_digit, hex_digits, hex16}

-- a digit more on the right
from_right : (k n : ℕ) → hex_digits (suc k) n ≡ hex_digits k (n / 16) ++ hex_digit (n % 16) ∷ []
unfolding hex_digits
from_right zero n = ap (λ (d : ℕ). hex_digit (d % 16) ∷ []) (div-one n)
from_right (suc k) n =
    let power : 2 ^ (4 * suc k) ≡ 16 * 2 ^ (4 * k) = ap (λ (e : ℕ). 2 ^ e) (let e : 4 * suc k ≡ 4 + 4 * k = omega arith in e) ∙ pow-add 2 4 (4 * k) in
    let shifted : n / 2 ^ (4 * suc k) ≡ n / 16 / 2 ^ (4 * k) = ap (λ (p : ℕ). n / p) power ∙ sym (div-div-eq-div-mul n 16 (2 ^ (4 * k))) in
    ap (λ (d : ℕ). hex_digit (d % 16) ∷ hex_digits (suc k) n) shifted ∙ ap (λ (ds : List ℕ). hex_digit (n / 16 / 2 ^ (4 * k) % 16) ∷ ds) (from_right k n)

-- the digits of 0
of_zero : (k : ℕ) → hex_digits k 0 ≡ replicate k 48
unfolding hex_digits
of_zero zero = refl
of_zero (suc k) = ap (λ (d : ℕ). hex_digit (d % 16) ∷ hex_digits k 0) (zero-div (2 ^ (4 * k))) ∙ ap (λ (ds : List ℕ). 48 ∷ ds) (of_zero k)

-- a number above 0 and below 16 ^ m has digits
not_none : (m x : ℕ) → x < 2 ^ (4 * m) → 0 < x → 0 < m
not_none zero x below some = absurd (omega (arith, below, some))
not_none (suc m) x below some = omega arith

-- zeros, and then the digits with none in front: as many as m
filled_up : (m fuel n : ℕ) (acc : List ℕ) → 0 < m → m ≤ fuel → n < 2 ^ (4 * m) → replicate (m + length acc - length (digits_onto fuel 16 false n acc)) 48 ++ digits_onto fuel 16 false n acc ≡ hex_digits m n ++ acc
filled_up zero fuel n acc some enough small = absurd (omega (arith, some))
filled_up (suc m) zero n acc some enough small = absurd (omega (arith, enough))
filled_up (suc m) (suc fuel) n acc some enough small =
    let glyph = digit_glyph false (n % 16) in
    let power : 2 ^ (4 * suc m) ≡ 2 ^ (4 * m) * 16 = ap (λ (e : ℕ). 2 ^ e) (let e : 4 * suc m ≡ 4 * m + 4 = omega arith in e) ∙ pow-add 2 (4 * m) 4 in
    let whole : hex_digits (suc m) n ++ acc ≡ hex_digits m (n / 16) ++ glyph ∷ acc = ap (λ (ds : List ℕ). ds ++ acc) (from_right m n) ∙ append_assoc (hex_digits m (n / 16)) (glyph ∷ []) acc in
    elim (cases_Bool (n / 16 == 0)) [
      | inl none ↦
          let zero_left : n / 16 ≡ 0 = grind (arith, nat_tests) in
          let count : suc m + length acc - suc (length acc) ≡ m = omega arith in
          rw none (
          ap (λ (k : ℕ). replicate k 48 ++ glyph ∷ acc) count
          ∙ ap (λ (ds : List ℕ). ds ++ glyph ∷ acc) (sym (of_zero m) ∙ ap (hex_digits m) (sym zero_left))
          ∙ sym whole
          )
      | inr more ↦
          let left : 0 < n / 16 = grind (arith, nat_tests) in
          let below : n / 16 < 2 ^ (4 * m) = omega (arith, small, power) in
          let again = filled_up m fuel (n / 16) (glyph ∷ acc) (not_none m (n / 16) below left) (omega (arith, enough)) below in
          let count : suc m + length acc ≡ m + suc (length acc) = omega arith in
          rw more (
          ap (λ (k : ℕ). replicate (k - length (digits_onto fuel 16 false (n / 16) (glyph ∷ acc))) 48 ++ digits_onto fuel 16 false (n / 16) (glyph ∷ acc)) count
          ∙ again
          ∙ sym whole
          )
    ]

-- 16 digits, as `format!("{n:016x}")` writes them
pub hex16_format : (n : ℕ) → n < 2 ^ 64 → hex16 n ≡ padded_integral (format_spec 32 0 4 16 (2 ^ 64 - 1)) false [] (digits 16 false n)
unfolding hex16 padded_integral char_count digits
hex16_format n small = sym (
    ap (λ (ds : List ℕ). replicate (16 - length (digits_onto 64 16 false n []) - 0 - 0) 48 ++ ds) (append-nil (digits_onto 64 16 false n []))
    ∙ ap (λ (k : ℕ). replicate k 48 ++ digits_onto 64 16 false n []) (omega arith)
    ∙ filled_up 16 64 n [] (omega arith) (omega arith) small
    ∙ append-nil (hex_digits 16 n)
    )
