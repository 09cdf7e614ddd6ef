-- One number more.
use Rattle.std.proofs.Common.{◌≡◌, ℕ, ◌+◌, Bool, ◌&&◌, ◌||◌, cond, refl, add-one}
use Rattle.pl_base.specs.Below.{each_below, some_below, count_below}

-- each number below n + 1
pub each_below_more : (p : ℕ → Bool) (n : ℕ) → each_below p (n + 1) ≡ (each_below p n && p n)
each_below_more p n = rw add-one refl

-- some number below n + 1
pub some_below_more : (p : ℕ → Bool) (n : ℕ) → some_below p (n + 1) ≡ (some_below p n || p n)
some_below_more p n = rw add-one refl

-- how many numbers below n + 1
pub count_below_more : (p : ℕ → Bool) (n : ℕ) → count_below p (n + 1) ≡ count_below p n + cond (p n) 1 0
count_below_more p n = rw add-one refl
