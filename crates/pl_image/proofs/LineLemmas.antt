-- The lines of words one after the other.
use Rattle.std.proofs.Common.{◌≡◌, ◌≤◌, ◌<◌, ℕ, zero, suc, ◌+◌, ◌-◌, ◌*◌, List, [], ◌++◌, refl, sym, ap, ◌∙◌, append_assoc, add-one, add-zero, add-suc, arith}
use Rattle.std.specs.Prelude.{slice_index, drop}
use Rattle.std.proofs.lemmas.List.{append-nil}
use Rattle.pl_base.specs.Bytes.{word64}
use Rattle.pl_base.specs.Memory.{Memory, read}
use Rattle.pl_image.specs.Lines.{byte_in, word_in, word_line, lines_from, IsClear}

-- ---- a word

-- a word depends on its eight bytes
pub word_by : (m : Memory) (a d : ℕ) (xs : List ℕ) → ((i : ℕ) → i < 8 → byte_in m (a + i) ≡ slice_index (drop d xs) i) → word_in m a ≡ word64 d xs
unfolding word_in word64 read
word_by m a d xs h =
    let e0 = h 0 (omega arith) in let e1 = h 1 (omega arith) in let e2 = h 2 (omega arith) in let e3 = h 3 (omega arith) in
    let e4 = h 4 (omega arith) in let e5 = h 5 (omega arith) in let e6 = h 6 (omega arith) in let e7 = h 7 (omega arith) in
    rw (e0, e1, e2, e3, e4, e5, e6, e7) refl

zero_word : (m : Memory) (a : ℕ) → ((i : ℕ) → i < 8 → byte_in m (a + i) ≡ 0) → word_in m a ≡ 0
unfolding word64
zero_word m a h = word_by m a 0 [] h

-- ---- lines

pub lines_none : (m : Memory) (n : ℕ) → lines_from m n 0 ≡ []
unfolding lines_from
lines_none m n = refl

lines_more : (m : Memory) (n k : ℕ) → lines_from m n (k + 1) ≡ lines_from m n k ++ word_line m (n + k)
unfolding lines_from
lines_more m n k = rw add-one refl

lines_split : (m : Memory) (n i k : ℕ) → lines_from m n (i + k) ≡ lines_from m n i ++ lines_from m (n + i) k
unfolding lines_from
lines_split m n i zero = rw add-zero (sym (append-nil (lines_from m n i)))
lines_split m n i (suc k) =
    let e : n + (i + k) ≡ n + i + k = omega arith in
    rw (add-suc, lines_split m n i k, e) (append_assoc (lines_from m n i) (lines_from m (n + i) k) (word_line m (n + i + k)))

zero_line : (m : Memory) (n : ℕ) → word_in m (8 * n) ≡ 0 → word_line m n ≡ []
unfolding word_line
zero_line m n e = rw e refl

lines_clear : (m : Memory) (n k : ℕ) → IsClear m (8 * n) (8 * (n + k)) → lines_from m n k ≡ []
unfolding lines_from
lines_clear m n zero clear = refl
lines_clear m n (suc k) clear =
    let front = lines_clear m n k (λ a low high. clear a low (omega arith)) in
    let last : word_line m (n + k) ≡ [] = zero_line m (n + k) (zero_word m (8 * (n + k)) (λ i lt. clear (8 * (n + k) + i) (omega arith) (omega arith))) in
    rw (front, last) refl

-- the lines up to a word, and those from it on
lines_join : (m : Memory) (i k : ℕ) → lines_from m 0 (i + k) ≡ lines_from m 0 i ++ lines_from m i k
lines_join m i k =
    let there : 0 + i ≡ i = omega arith in
    lines_split m 0 i k ∙ ap (λ (n : ℕ). lines_from m 0 i ++ lines_from m n k) there

pub lines_part : (m : Memory) (from to : ℕ) → from ≤ to → lines_from m 0 to ≡ lines_from m 0 from ++ lines_from m from (to - from)
lines_part m from to le =
    let whole : to ≡ from + (to - from) = omega arith in
    ap (lines_from m 0) whole ∙ lines_join m from (to - from)

-- where words are 0 there are no lines
pub lines_skip : (m : Memory) (from to : ℕ) → from ≤ to → IsClear m (8 * from) (8 * to) → lines_from m 0 to ≡ lines_from m 0 from
lines_skip m from to le clear =
    let none : lines_from m from (to - from) ≡ [] = lines_clear m from (to - from) (λ a low high. clear a low (omega arith)) in
    lines_part m from to le ∙ ap (λ (xs : List ℕ). lines_from m 0 from ++ xs) none ∙ append-nil (lines_from m 0 from)

-- one word more
pub lines_next : (m : Memory) (n : ℕ) → lines_from m 0 (n + 1) ≡ lines_from m 0 n ++ word_line m n
lines_next m n =
    let there : 0 + n ≡ n = omega arith in
    lines_more m 0 n ∙ ap (λ (k : ℕ). lines_from m 0 n ++ word_line m k) there
