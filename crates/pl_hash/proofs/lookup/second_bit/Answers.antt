use Rattle.std.proofs.Common.{◌≡◌, ◌<◌, ◌≤◌, ◌/◌, ◌^◌, refl, arith}
use Rattle.std.proofs.Math.Nat.{div-eq_of_lt, pow-le-pow_right}
use Rattle.pl_hash.proofs.lookup.second_bit.Goals as goal

pub returns-else-shift-lt-BITS : goal.returns-else-shift-lt-BITS
returns-else-shift-lt-BITS c =
    let large : 2 ^ 32 ≤ 2 ^ c.args.shift = pow-le-pow_right {n = 2} (omega arith) {i = 32} {j = c.args.shift} c.if-shift-lt-BITS.false in
    let small : c.args.hash < 2 ^ c.args.shift = omega (arith, c.ranges.hash) in
    let none : c.args.hash / 2 ^ c.args.shift ≡ 0 = div-eq_of_lt small in
    rw none refl
