-- Bytes that are read of a memory with patches over it.
use Rattle.std.proofs.Common.{◌≡◌, ℕ, ◌+◌, ◌*◌, ◌/◌, ◌<◌, true, false, cond, List, [], ◌∷◌, length, get_or, set, take, refl, sym, ap, ◌∙◌, arith, inl, inr}
use Rattle.std.specs.Prelude.{◌&&◌, ◌==◌, nat_le, nat_lt, fold}
use Rattle.std.specs.Option.{unwrap_or}
use Rattle.std.proofs.lemmas.Bool.{cases_Bool, cases_eq}
use Rattle.std.proofs.lemmas.Bool.Decides.{nat_tests}
use Rattle.std.proofs.lemmas.List.{get_or-set_same, get_or-set_other, length-set}
use Rattle.std.proofs.lemmas.List.FromFn.{fill_by_all}
use Rattle.std.proofs.lemmas.List.Sums.{fold_more}
use Rattle.pl_base.specs.Memory.{Memory, Fill, covers, over, read, filled}
use Rattle.pl_base.proofs.MemoryLaws.{read_length, read_byte}
use Rattle.pl_image.specs.declared.touched.Touch.{Touch}
use Rattle.pl_image.specs.Index.{laid, laid_by, laid_in, patch_of, AreLaid, AreNear}

-- ---- rules for bytes

pub laid_none : (f : ℕ → ℕ → ℕ) (from : ℕ) (xs : List ℕ) → ((a x : ℕ) → f a x ≡ x) → AreLaid f from xs xs
laid_none f from xs idle = (refl, λ k lt. sym (idle (from + k) (get_or xs k 0)))

pub laid_same : (f g : ℕ → ℕ → ℕ) (from : ℕ) (xs ys : List ℕ) → ((a x : ℕ) → f a x ≡ g a x) → AreLaid f from xs ys → AreLaid g from xs ys
laid_same f g from xs ys same are = (are.0, λ k lt. are.1 k lt ∙ same (from + k) (get_or xs k 0))

-- one rule after another
pub laid_then : (f g h : ℕ → ℕ → ℕ) (from : ℕ) (xs ys zs : List ℕ) → ((a x : ℕ) → g a (f a x) ≡ h a x) → AreLaid f from xs ys → AreLaid g from ys zs → AreLaid h from xs zs
laid_then f g h from xs ys zs is one two = (
  two.0 ∙ one.0,
  λ k lt. two.1 k (omega (arith, lt, one.0)) ∙ ap (g (from + k)) (one.1 k lt) ∙ is (from + k) (get_or xs k 0),
)

-- ---- one byte

-- the rule of a patch at one address
abbrev pub at_one : Fill → ℕ → ℕ → ℕ → ℕ
at_one f address a x = cond (a == address) (laid a x f) x

pub byte_outside : (f : Fill) (address from : ℕ) (xs : List ℕ) → ((k : ℕ) → k < length xs → from + k ≡ address → ⊥) → AreLaid (at_one f address) from xs xs
byte_outside f address from xs other = (refl, λ k lt. outside k (other k lt))
  where
    outside : (k : ℕ) → (from + k ≡ address → ⊥) → get_or xs k 0 ≡ at_one f address (from + k) (get_or xs k 0)
    outside k other_place =
        let apart : (from + k == address) ≡ false = grind (arith, nat_tests) in
        rw apart refl

pub byte_missed : (f : Fill) (address from : ℕ) (xs : List ℕ) → covers address f ≡ false → AreLaid (at_one f address) from xs xs
byte_missed f address from xs miss = (refl, λ k lt. missed (from + k) (get_or xs k 0))
  where
    missed : (a x : ℕ) → x ≡ at_one f address a x
    missed a x = elim (cases_eq a address) [
      | inl here ↦ elim (cases_Bool (a == address)) [ inl same ↦ rw (same, here, miss) refl | inr apart ↦ rw apart refl ]
      | inr apart ↦
          let test : (a == address) ≡ false = grind (arith, nat_tests) in
          rw test refl
    ]

pub byte_laid : (f : Fill) (address from at b : ℕ) (xs : List ℕ) → from + at ≡ address → at < length xs → b ≡ laid address (get_or xs at 0) f → AreLaid (at_one f address) from xs (set xs at b)
byte_laid f address from at b xs place lt is = (
  length-set xs at b,
  λ k within. elim (cases_eq k at) [
    | inl same ↦
        let test : (from + k == address) ≡ true = grind (arith, nat_tests) in
        let where_ : from + k ≡ address = omega arith in
        rw test (ap (λ (n : ℕ). get_or (set xs at b) n 0) same ∙ get_or-set_same xs at b 0 lt ∙ is ∙ ap (λ (n : ℕ). laid address (get_or xs n 0) f) (sym same) ∙ ap (λ (n : ℕ). laid n (get_or xs k 0) f) (sym where_))
    | inr other ↦
        let test : (from + k == address) ≡ false = grind (arith, nat_tests) in
        rw test (get_or-set_other xs at k b 0 other)
  ],
)

-- ---- one word

-- the rule of a patch at so many addresses of a word
abbrev pub at_some : Fill → ℕ → ℕ → ℕ → ℕ → ℕ
at_some f number count a x = cond (nat_le (8 * number) a && nat_lt a (8 * number + count)) (laid a x f) x

pub some_none : (f : Fill) (number a x : ℕ) → at_some f number 0 a x ≡ x
some_none f number a x =
    let none : (nat_le (8 * number) a && nat_lt a (8 * number + 0)) ≡ false = grind (arith, nat_tests) in
    rw none refl

pub some_more : (f : Fill) (number count a x : ℕ) → at_one f (8 * number + count) a (at_some f number count a x) ≡ at_some f number (count + 1) a x
some_more f number count a x = elim (cases_eq a (8 * number + count)) [
  | inl here ↦
      let test : (a == 8 * number + count) ≡ true = grind (arith, nat_tests) in
      let before : (nat_le (8 * number) a && nat_lt a (8 * number + count)) ≡ false = grind (arith, nat_tests) in
      let now : (nat_le (8 * number) a && nat_lt a (8 * number + (count + 1))) ≡ true = grind (arith, nat_tests) in
      rw (test, before, now) refl
  | inr other ↦
      let test : (a == 8 * number + count) ≡ false = grind (arith, nat_tests) in
      let same : (nat_le (8 * number) a && nat_lt a (8 * number + (count + 1))) ≡ (nat_le (8 * number) a && nat_lt a (8 * number + count)) = grind (arith, nat_tests) in
      rw (test, same) refl
]

pub some_all : (f : Fill) (number a x : ℕ) → at_some f number 8 a x ≡ laid_in f number a x
some_all f number a x =
    let same : (nat_le (8 * number) a && nat_lt a (8 * number + 8)) ≡ (number == a / 8) = grind (arith, nat_tests) in
    rw same refl

-- ---- all touches

pub touch_more : (patches : List Fill) (ts : List Touch) (i : ℕ) (t d : Touch) (f : Fill) → i < length ts → t ≡ get_or ts i d → f ≡ patch_of patches t.patch
    → (a x : ℕ) → laid_in f t.number a (fold (laid_by patches a) x (take i ts)) ≡ fold (laid_by patches a) x (take (i + 1) ts)
touch_more patches ts i t d f lt is of a x =
    ap (λ (g : Fill). laid_in g t.number a (fold (laid_by patches a) x (take i ts))) of
    ∙ ap (λ (u : Touch). laid_by patches a (fold (laid_by patches a) x (take i ts)) u) is
    ∙ sym (fold_more (laid_by patches a) x ts i d lt)

-- ---- the bytes that are read

-- a byte under patches, 0 where there is none
filled_or : (m : Memory) (fs : List Fill) (a : ℕ) → unwrap_or (filled m fs a) 0 ≡ fold (laid a) (unwrap_or (m a) 0) fs
unfolding filled
filled_or m [] a = refl
filled_or m (f ∷ fs) a = filled_or (over f.start f.bytes m) fs a ∙ ap (λ (x : ℕ). fold (laid a) x fs) (elim (cases_Bool (covers a f)) [
  | inl hit ↦ rw hit refl
  | inr miss ↦ rw miss refl
])

pub read_patched : (m : Memory) (fs : List Fill) (near : List Touch) (from size : ℕ) (old new : List ℕ) → AreNear fs near from size → old ≡ read m from size
    → AreLaid (λ a found. fold (laid_by fs a) found near) from old new → new ≡ read (filled m fs) from size
unfolding read
read_patched m fs near from size old new are before now =
    let long : length old ≡ size = ap length before ∙ read_length m from size in
    fill_by_all (λ k. unwrap_or (filled m fs (from + k)) 0) new size 0 (now.0 ∙ long) (λ k lt.
    now.1 k (omega (arith, lt, long))
    ∙ are.whole (from + k) (get_or old k 0) (omega arith) (omega (arith, lt))
    ∙ ap (λ (x : ℕ). fold (laid (from + k)) x fs) (ap (λ (xs : List ℕ). get_or xs k 0) before ∙ read_byte m from size k lt)
    ∙ sym (filled_or m fs (from + k)))
