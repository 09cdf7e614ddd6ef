-- Hexadecimal digits are read back.
use Rattle.std.proofs.Common.{◌≡◌, ℕ, zero, suc, ◌+◌, ◌-◌, ◌*◌, ◌/◌, ◌%◌, ◌^◌, ◌<◌, ◌≤◌, true, false, List, [], ◌∷◌, length, Some, refl, sym, ap, ◌∙◌, arith, inl, inr}
use Rattle.std.specs.Prelude.{◌==◌, nat_le, nat_lt, fold}
use Rattle.std.specs.Fmt.{digits, digits_onto, digit_glyph}
use Rattle.std.specs.List.{list_all}
use Rattle.std.proofs.lemmas.Bool.{cases_Bool, cases_lt}
use Rattle.std.proofs.lemmas.Bool.Decides.{nat_tests}
use Rattle.std.proofs.lemmas.Nat.{pow-add}
use Rattle.pl_build.specs.Words.{is_digit, digit, is_number, digit_more, value, number}
use Rattle.law_demo.specs.Numbers.{NumbersAreRead}

-- ---- one digit

glyph_value : (d : ℕ) → d < 16 → digit (digit_glyph false d) ≡ d
unfolding digit
glyph_value d lt = elim (cases_lt d 10) [
  | inl low ↦
      let is_low : nat_lt d 10 ≡ true = grind (arith, nat_tests) in
      let under : nat_le 97 (48 + d) ≡ false = grind (arith, nat_tests) in
      let back : 48 + d - 48 ≡ d = omega arith in
      rw (is_low, under) back
  | inr high ↦
      let is_high : nat_lt d 10 ≡ false = grind (arith, nat_tests) in
      let over : nat_le 97 (87 + d) ≡ true = grind (arith, nat_tests) in
      let back : 87 + d - 87 ≡ d = omega arith in
      rw (is_high, over) back
]

glyph_digit : (d : ℕ) → d < 16 → is_digit (digit_glyph false d) ≡ true
unfolding is_digit
glyph_digit d lt = elim (cases_lt d 10) [
  | inl low ↦
      let is_low : nat_lt d 10 ≡ true = grind (arith, nat_tests) in
      let a : nat_le 48 (48 + d) ≡ true = grind (arith, nat_tests) in
      let b : nat_le (48 + d) 57 ≡ true = grind (arith, nat_tests) in
      rw (is_low, a, b) refl
  | inr high ↦
      let is_high : nat_lt d 10 ≡ false = grind (arith, nat_tests) in
      let a : nat_le 48 (87 + d) ≡ true = grind (arith, nat_tests) in
      let b : nat_le (87 + d) 57 ≡ false = grind (arith, nat_tests) in
      let c : nat_le 97 (87 + d) ≡ true = grind (arith, nat_tests) in
      let e : nat_le (87 + d) 102 ≡ true = grind (arith, nat_tests) in
      rw (is_high, a, b, c, e) refl
]

-- ---- all digits

power : (m : ℕ) → 2 ^ (4 * suc m) ≡ 2 ^ (4 * m) * 16
power m = ap (λ (e : ℕ). 2 ^ e) (let e : 4 * suc m ≡ 4 * m + 4 = omega arith in e) ∙ pow-add 2 (4 * m) 4

-- what is left after the last digit
left_below : (m n : ℕ) → n < 2 ^ (4 * suc m) → n / 16 < 2 ^ (4 * m)
left_below m n small = omega (arith, small, power m)

left_some : (m x : ℕ) → x < 2 ^ (4 * m) → 0 < x → 0 < m
left_some zero x below some = absurd (omega (arith, below, some))
left_some (suc m) x below some = omega arith

step_value : (n : ℕ) → n < 2 ^ 64 → digit_more (n / 16) (digit_glyph false (n % 16)) ≡ n
unfolding digit_more
step_value n small =
    let d = glyph_value (n % 16) (omega arith) in
    let sum : n / 16 * 16 + n % 16 ≡ n = omega arith in
    let whole : (n / 16 * 16 + n % 16) % 2 ^ 64 ≡ n = omega (arith, sum, small) in
    rw d whole

valued : (m fuel n : ℕ) (acc : List ℕ) → 0 < m → m ≤ fuel → n < 2 ^ (4 * m) → n < 2 ^ 64 → fold digit_more 0 (digits_onto fuel 16 false n acc) ≡ fold digit_more n acc
valued zero fuel n acc some enough small fits = absurd (omega (arith, some))
valued (suc m) zero n acc some enough small fits = absurd (omega (arith, enough))
valued (suc m) (suc fuel) n acc some enough small fits = elim (cases_Bool (n / 16 == 0)) [
  | inl none ↦
      let zero_left : n / 16 ≡ 0 = grind (arith, nat_tests) in
      rw none (ap (λ (v : ℕ). fold digit_more v acc) (ap (λ (v : ℕ). digit_more v (digit_glyph false (n % 16))) (sym zero_left) ∙ step_value n fits))
  | inr more ↦
      let left : 0 < n / 16 = grind (arith, nat_tests) in
      let below : n / 16 < 2 ^ (4 * m) = left_below m n small in
      rw more (valued m fuel (n / 16) (digit_glyph false (n % 16) ∷ acc) (left_some m (n / 16) below left) (omega (arith, enough)) below (omega (arith, fits)) ∙ ap (λ (v : ℕ). fold digit_more v acc) (step_value n fits))
]

few_digits : (m fuel n : ℕ) (acc : List ℕ) → 0 < m → m ≤ fuel → n < 2 ^ (4 * m) → length (digits_onto fuel 16 false n acc) ≤ m + length acc
few_digits zero fuel n acc some enough small = absurd (omega (arith, some))
few_digits (suc m) zero n acc some enough small = absurd (omega (arith, enough))
few_digits (suc m) (suc fuel) n acc some enough small = elim (cases_Bool (n / 16 == 0)) [
  | inl none ↦ rw none (omega arith)
  | inr more ↦
      let left : 0 < n / 16 = grind (arith, nat_tests) in
      let below : n / 16 < 2 ^ (4 * m) = left_below m n small in
      let rest = few_digits m fuel (n / 16) (digit_glyph false (n % 16) ∷ acc) (left_some m (n / 16) below left) (omega (arith, enough)) below in
      rw more (omega (arith, rest))
]

some_digits : (fuel n : ℕ) (acc : List ℕ) → 0 < length acc → 0 < length (digits_onto fuel 16 false n acc)
some_digits zero n acc some = some
some_digits (suc fuel) n acc some = elim (cases_Bool (n / 16 == 0)) [
  | inl none ↦ rw none (omega arith)
  | inr more ↦ rw more (some_digits fuel (n / 16) (digit_glyph false (n % 16) ∷ acc) (omega arith))
]

first_digit : (fuel n : ℕ) → 0 < length (digits_onto (suc fuel) 16 false n [])
first_digit fuel n = elim (cases_Bool (n / 16 == 0)) [
  | inl none ↦ rw none (omega arith)
  | inr more ↦ rw more (some_digits fuel (n / 16) (digit_glyph false (n % 16) ∷ []) (omega arith))
]

only_digits : (fuel n : ℕ) (acc : List ℕ) → list_all is_digit acc ≡ true → list_all is_digit (digits_onto fuel 16 false n acc) ≡ true
only_digits zero n acc all = all
only_digits (suc fuel) n acc all = elim (cases_Bool (n / 16 == 0)) [
  | inl none ↦ rw none (rw (glyph_digit (n % 16) (omega arith)) all)
  | inr more ↦ rw more (only_digits fuel (n / 16) (digit_glyph false (n % 16) ∷ acc) (rw (glyph_digit (n % 16) (omega arith)) all))
]

pub hex_all : (n : ℕ) → list_all is_digit (digits 16 false n) ≡ true
unfolding digits
hex_all n = only_digits 64 n [] refl

pub numbers_read : NumbersAreRead
unfolding number is_number value digits
numbers_read n small =
    let some : nat_le 1 (length (digits_onto 64 16 false n [])) ≡ true = at_most 1 (length (digits_onto 64 16 false n [])) (omega (arith, first_digit 63 n)) in
    let few : nat_le (length (digits_onto 64 16 false n [])) 16 ≡ true = at_most (length (digits_onto 64 16 false n [])) 16 (few_digits 16 64 n [] (omega arith) (omega arith) small) in
    rw (some, few, only_digits 64 n [] refl) (ap (λ (v : ℕ). Some v) (valued 16 64 n [] (omega arith) (omega arith) small small))
  where
    at_most : (a b : ℕ) → a ≤ b → nat_le a b ≡ true
    at_most a b le = grind (arith, nat_tests)
