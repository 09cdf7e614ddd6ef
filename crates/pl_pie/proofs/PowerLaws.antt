-- Of two powers of two the lesser divides the greater, so an address that is a multiple of an object's alignment is one of each segment's.
use Rattle.std.proofs.Common.{◌≡◌, ℕ, zero, suc, ◌+◌, ◌*◌, ◌/◌, ◌%◌, ◌≤◌, true, sym, ap, ◌∙◌, arith, inl, inr}
use Rattle.std.specs.Int.{is_power_of_two}
use Rattle.std.specs.Int.Count.{ones_step}
use Rattle.std.proofs.Math.Nat.{mul_assoc, add-mul-mod_self_left}
use Rattle.std.proofs.lemmas.Bool.{cases_lt, eqb-true}
use Rattle.std.proofs.lemmas.Bool.Decides.{nat_tests}
use Rattle.std.proofs.lemmas.Nat.{zero_from_ones, div-add-mod'}
use Rattle.pl_base.proofs.TestLaws.{power_some}

-- ---- halves

record IsTwice (n : ℕ) : Type 0 where
  half : is_power_of_two (n / 2) ≡ true
  twice : n ≡ 2 * (n / 2)

halved : (n : ℕ) → is_power_of_two n ≡ true → 2 ≤ n → IsTwice n
halved n is le =
    let one = eqb-true _ 1 is in
    let step = ones_step n in
    elim (cases_lt (n % 2) 1) [
      | inl none ↦ record { half = grind (arith, nat_tests, one, step, none); twice = omega (arith, none) }
      | inr some ↦ let half : n / 2 ≡ 0 = zero_from_ones (n / 2) (omega (arith, one, step, some)) in absurd (omega (arith, half, le))
    ]

divides : (most a b : ℕ) → a ≤ most → is_power_of_two a ≡ true → is_power_of_two b ≡ true → a ≤ b → (q : ℕ) × (b ≡ a * q)
divides zero a b le pa pb small = absurd (omega (arith, le, power_some a pa))
divides (suc most) a b le pa pb small = elim (cases_lt a 2) [
  | inl one ↦ let is : a ≡ 1 = omega (arith, one, power_some a pa) in let e : b ≡ 1 * b = omega arith in (b, e ∙ ap (λ (n : ℕ). n * b) (sym is))
  | inr more ↦
      let ha = halved a pa more in
      let hb = halved b pb (omega (arith, more, small)) in
      let rest = divides most (a / 2) (b / 2) (omega (arith, le, more)) ha.half hb.half (omega (arith, small)) in
      (rest.0, hb.twice ∙ ap (λ (n : ℕ). 2 * n) rest.1 ∙ sym (mul_assoc 2 (a / 2) rest.0) ∙ ap (λ (n : ℕ). n * rest.0) (sym ha.twice))
]

-- a multiple of the greater is one of the lesser
pub multiple_of : (at a b : ℕ) → is_power_of_two a ≡ true → is_power_of_two b ≡ true → a ≤ b → at % b ≡ 0 → (m : ℕ) × (at ≡ a * m)
multiple_of at a b pa pb small aligned =
    let d = divides a a b (omega arith) pa pb small in
    let whole : at ≡ b * (at / b) = omega (arith, div-add-mod' at b, aligned) in
    (d.0 * (at / b), whole ∙ ap (λ (n : ℕ). n * (at / b)) d.1 ∙ mul_assoc a d.0 (at / b))

-- so adding it changes no remainder
pub remainder_kept : (x at a b : ℕ) → is_power_of_two a ≡ true → is_power_of_two b ≡ true → a ≤ b → at % b ≡ 0 → (x + at) % a ≡ x % a
remainder_kept x at a b pa pb small aligned =
    let m = multiple_of at a b pa pb small aligned in
    ap (λ (n : ℕ). (x + n) % a) m.1 ∙ add-mul-mod_self_left x a m.0
