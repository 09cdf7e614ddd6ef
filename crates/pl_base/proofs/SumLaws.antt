-- Sums modulo 2^64 undo each other, and what rounding gives.
use Rattle.std.proofs.Common.{◌≡◌, ℕ, ◌+◌, ◌-◌, ◌*◌, ◌/◌, ◌%◌, ◌^◌, ◌<◌, ◌≤◌, true, arith, refl, ap, ◌∙◌}
use Rattle.std.proofs.lemmas.Nat.{div-add-mod', mod_below}
use Rattle.std.proofs.Math.Nat.{mul-mod_left, add-mul, div-eq_of_lt-le}
use Rattle.pl_base.specs.Sums.{plus, minus, round_up, round_down, is_aligned}

-- what was added is taken away again
pub minus-plus : (x y : ℕ) → x < 2 ^ 64 → y < 2 ^ 64 → minus (plus x y) y ≡ x
minus-plus x y p q = omega arith

-- what was taken away is added again
pub plus-minus : (x y : ℕ) → x < 2 ^ 64 → y < 2 ^ 64 → plus (minus x y) y ≡ x
plus-minus x y p q = omega arith

-- a sum modulo 2^64 is below it
pub plus_below : (x y : ℕ) → plus x y < 2 ^ 64
plus_below x y = omega arith

-- and so is a difference
pub minus_below : (x y : ℕ) → minus x y < 2 ^ 64
minus_below x y = omega arith

-- rounded down, a number is at most itself
pub round_down-at_most : (x a : ℕ) → 0 < a → round_down x a ≤ x
unfolding round_down
round_down-at_most x a p = omega (arith, div-add-mod' x a, mod_below x a p)

-- a number rounded down is less than a multiple away
pub round_down-near : (x a : ℕ) → 0 < a → x < round_down x a + a
unfolding round_down
round_down-near x a p = omega (arith, div-add-mod' x a, mod_below x a p)

-- rounded up, a number is at least itself
pub round_up-at_least : (x a : ℕ) → 0 < a → x ≤ round_up x a
unfolding round_up
round_up-at_least x a p = omega (arith, div-add-mod' (x + (a - 1)) a, mod_below (x + (a - 1)) a p)

-- a number rounded up is less than a multiple away
pub round_up-near : (x a : ℕ) → 0 < a → round_up x a < x + a
unfolding round_up
round_up-near x a p = omega (arith, div-add-mod' (x + (a - 1)) a, mod_below (x + (a - 1)) a p)

-- what is rounded down is a multiple
pub round_down-multiple : (x a : ℕ) → round_down x a % a ≡ 0
unfolding round_down
round_down-multiple x a = mul-mod_left (x / a) a

-- rounded up, too
pub round_up-multiple : (x a : ℕ) → round_up x a % a ≡ 0
unfolding round_up
round_up-multiple x a = mul-mod_left ((x + (a - 1)) / a) a

-- what is rounded down is aligned
pub round_down-aligned : (x a : ℕ) → is_aligned (round_down x a) a ≡ true
round_down-aligned x a = rw (round_down-multiple x a) refl

-- rounded up, too
pub round_up-aligned : (x a : ℕ) → is_aligned (round_up x a) a ≡ true
round_up-aligned x a = rw (round_up-multiple x a) refl

-- a multiple is rounded to itself
pub round_down-itself : (x a : ℕ) → x % a ≡ 0 → round_down x a ≡ x
unfolding round_down
round_down-itself x a multiple = omega (arith, div-add-mod' x a, multiple)

-- a sum of two numbers is a number if it is below 2^64
pub plus_small : (x y : ℕ) → x + y < 2 ^ 64 → plus x y ≡ x + y
plus_small x y lt = omega arith

-- a multiple is rounded up to itself
pub round_up-itself : (x a : ℕ) → 0 < a → x % a ≡ 0 → round_up x a ≡ x
unfolding round_up
round_up-itself x a p multiple =
    let whole : x / a * a ≡ x = omega (arith, div-add-mod' x a, multiple) in
    let next : (x / a + 1) * a ≡ x / a * a + 1 * a = add-mul (x / a) 1 a in
    ap (λ (q : ℕ). q * a) (div-eq_of_lt-le a (omega (arith, whole)) (omega (arith, whole, next, p))) ∙ whole
