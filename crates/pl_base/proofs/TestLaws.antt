-- Tests that answer the same either way round, one beside its opposite, and what a test of a number tells.
use Rattle.std.proofs.Common.{◌≡◌, ℕ, zero, suc, ◌<◌, Bool, true, false, not, ◌&&◌, List, eqb, sym, ◌∙◌, arith}
use Rattle.std.specs.Int.{is_power_of_two}
use Rattle.std.specs.Str.{bytes_eq}
use Rattle.std.specs.Cmp.{eq_by_cmp_equiv}
use Rattle.std.specs.Cmp.Lexicographic.{texts_ties, nat_list_cmp_total}
use Rattle.std.proofs.lemmas.Bool.{eqb-true, false≢true}
use Rattle.std.proofs.lemmas.Nat.{ones_le_self}

-- two numbers, either way round
pub number_flips : (x y : ℕ) → eqb x y ≡ eqb y x
number_flips x y = grind arith

-- two texts, either way round
pub bytes_flip : (xs ys : List ℕ) → bytes_eq xs ys ≡ bytes_eq ys xs
bytes_flip xs ys = texts_ties xs ys ∙ (eq_by_cmp_equiv nat_list_cmp_total).symm xs ys ∙ sym (texts_ties ys xs)

-- the first of two tests without the second, and the second, never hold together
pub no_both : (b c : Bool) → (b && not c) ≡ true → c ≡ true → ⊥
no_both true true is hit = false≢true is
no_both true false is hit = false≢true hit
no_both false c is hit = false≢true is

-- a power of two is above 0
pub power_some : (n : ℕ) → is_power_of_two n ≡ true → 0 < n
power_some zero is = absurd (omega (arith, ones_le_self 0, eqb-true _ 1 is))
power_some (suc n) is = omega arith
