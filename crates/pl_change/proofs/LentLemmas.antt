-- Calls of a folder that is lent are calls of the folder.
use Rattle.std.proofs.Common.{◌≡◌, ℕ, suc, ◌+◌, ◌*◌, ◌<◌, ◌≤◌, sym, ap, arith}
use Rattle.std.proofs.Math.Nat.{mul-le-mul_left, mul-le-mul_right, mul-suc, suc-mul}
use Rattle.pl_folder.specs.Calls.{Calls}
use Rattle.pl_folder.specs.Effects.{Effect}
use Rattle.pl_folder.specs.Seen.{Seen, Ending}
use Rattle.pl_change.specs.Lent.{both, lent}

-- a square and a number up to its root is below the next square
below_next : (s t a c : ℕ) → a ≤ s → s < t → s * s + a < t * t + c
below_next s t a c small lt =
    let next : suc s ≤ t = omega (arith, lt) in
    let one : suc s * suc s ≤ t * suc s = mul-le-mul_right (suc s) next in
    let two : t * suc s ≤ t * t = mul-le-mul_left t next in
    let three : suc s * suc s ≡ s * suc s + suc s = suc-mul s (suc s) in
    let four : s * suc s ≡ s * s + s = mul-suc s s in
    omega (arith, one, two, three, four, small)

one_root : (s t a c : ℕ) → a ≤ s → c ≤ t → s * s + a ≡ t * t + c → s ≡ t
one_root s t a c small_a small_c is =
    let up : s < t → ⊥ = λ lt. let far : s * s + a < t * t + c = below_next s t a c small_a lt in omega (arith, far, is) in
    let down : t < s → ⊥ = λ lt. let far : t * t + c < s * s + a = below_next t s c a small_c lt in omega (arith, far, is) in
    grind (arith, up, down)

pub first_of : (a b c d : ℕ) → both a b ≡ both c d → a ≡ c
unfolding both
first_of a b c d is =
    let root : a + b ≡ c + d = one_root (a + b) (c + d) a c (omega arith) (omega arith) is in
    let squares : (a + b) * (a + b) ≡ (c + d) * (c + d) = ap (λ (s : ℕ). s * s) root in
    omega (arith, is, squares)

pub second_of : (a b c d : ℕ) → both a b ≡ both c d → b ≡ d
unfolding both
second_of a b c d is =
    let root : a + b ≡ c + d = one_root (a + b) (c + d) a c (omega arith) (omega arith) is in
    let squares : (a + b) * (a + b) ≡ (c + d) * (c + d) = ap (λ (s : ℕ). s * s) root in
    omega (arith, is, squares, root)

pub returned : {e : Ending} {P : Effect} (m n : ℕ) {a b : Seen} → Calls e P (lent m a) (lent n b) → Calls e P a b
returned m n {a = a} {b = b} call = record {
  tells = call.tells;
  records = call.records;
  referent = sym (second_of m a.referent n b.referent (sym call.referent));
  files = call.files;
  disk = call.disk;
  count = call.count;
}
