-- Counting the numbers that pass a test.
use Rattle.std.proofs.Common.{◌≡◌, ℕ, zero, suc, ◌+◌, ◌-◌, ◌≤◌, ◌<◌, Bool, true, false, ◌&&◌, ◌||◌, cond, refl, ◌∙◌, subst, arith, add-suc, add-zero, add-one, inl, inr}
use Rattle.std.proofs.lemmas.Bool.{cases_Bool, true≢false}
use Rattle.pl_base.specs.Below.{count_below}

-- one number more that passes, or does not
count_pass : (p : ℕ → Bool) (n : ℕ) → p n ≡ true → count_below p (suc n) ≡ count_below p n + 1
count_pass p n hit = rw hit refl

count_miss : (p : ℕ → Bool) (n : ℕ) → p n ≡ false → count_below p (suc n) ≡ count_below p n
count_miss p n miss = rw miss (omega arith)

-- none from a number on for some numbers
count_gap : (p : ℕ → Bool) (a d : ℕ) → ((k : ℕ) → a ≤ k → k < a + d → p k ≡ false) → count_below p (a + d) ≡ count_below p a
count_gap p a zero none = rw add-zero refl
count_gap p a (suc d) none =
    rw add-suc (count_miss p (a + d) (none (a + d) (omega arith) (omega arith)) ∙ count_gap p a d (λ k le lt. none k le (omega arith)))

pub count_until : (p : ℕ → Bool) (a b : ℕ) → a ≤ b → ((k : ℕ) → a ≤ k → k < b → p k ≡ false) → count_below p b ≡ count_below p a
count_until p a b le none =
    let whole : a + (b - a) ≡ b = omega (arith, le) in
    subst (λ (n : ℕ). count_below p n ≡ count_below p a) whole (count_gap p a (b - a) (λ k low high. none k low (omega (arith, whole, high))))

-- one after a number that passes
pub count_next : (p : ℕ → Bool) (n : ℕ) → p n ≡ true → count_below p (n + 1) ≡ count_below p n + 1
count_next p n hit = rw add-one (count_pass p n hit)

-- a count does not fall
count_more : (p : ℕ → Bool) (a d : ℕ) → count_below p a ≤ count_below p (a + d)
count_more p a zero = rw add-zero (omega arith)
count_more p a (suc d) = rw add-suc (elim (cases_Bool (p (a + d))) [
  | inl hit ↦ omega (arith, count_pass p (a + d) hit, count_more p a d)
  | inr miss ↦ omega (arith, count_miss p (a + d) miss, count_more p a d)
])

pub count_grows : (p : ℕ → Bool) (a b : ℕ) → a ≤ b → count_below p a ≤ count_below p b
count_grows p a b le =
    let whole : a + (b - a) ≡ b = omega (arith, le) in
    subst (λ (n : ℕ). count_below p a ≤ count_below p n) whole (count_more p a (b - a))

-- two tests that never pass together
either : (x y z : Bool) → z ≡ (x || y) → (x && y) ≡ false → cond z 1 0 ≡ cond x 1 0 + cond y 1 0
either true true z is apart = absurd (true≢false apart)
either true false z is apart = rw is refl
either false true z is apart = rw is refl
either false false z is apart = rw is refl

pub count_split : (p q r : ℕ → Bool) → ((k : ℕ) → p k ≡ (q k || r k)) → ((k : ℕ) → (q k && r k) ≡ false) → (n : ℕ) → count_below p n ≡ count_below q n + count_below r n
count_split p q r is apart zero = refl
count_split p q r is apart (suc n) = omega (arith, count_split p q r is apart n, either (q n) (r n) (p n) (is n) (apart n))
