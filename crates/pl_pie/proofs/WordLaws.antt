-- Words of a file with a number added, and with it subtracted again.
use Rattle.std.proofs.Common.{◌≡◌, ℕ, zero, suc, ◌+◌, ◌-◌, ◌%◌, ◌^◌, ◌<◌, ◌≤◌, List, [], ◌∷◌, ◌++◌, length, get_or, take, drop, refl, sym, ap, ◌∙◌, arith, add-one, drop-cons}
use Rattle.std.proofs.lemmas.List.{drop_all, length-append, length-take, length-drop}
use Rattle.pl_base.specs.Bytes.{IsBytes, word16, word64, bytes16, bytes64, part, put}
use Rattle.pl_base.specs.Sums.{plus}
use Rattle.pl_base.specs.Windows.{AllIn}
use Rattle.pl_base.proofs.WindowLaws.{length-put, agree_same, agree_nowhere, agree_edit, agree_back}
use Rattle.pl_base.proofs.WordLaws.{is_bytes_put, is_bytes_bytes16, is_bytes_bytes64, length_bytes16, bytes16_word}
use Rattle.pl_move.specs.Moves.{add8}
use Rattle.pl_move.proofs.MoveLaws.{length-add8, add8_back}
use Rattle.pl_pie.specs.Pie.{typed}
use Rattle.pl_pie.specs.Fix.{added, taken, word_windows}

-- ---- one word

add8_bytes : (at more : ℕ) (xs : List ℕ) → IsBytes xs → IsBytes (add8 at more xs)
unfolding add8
add8_bytes at more xs h = is_bytes_put at (bytes64 (plus (word64 at xs) more)) xs (is_bytes_bytes64 (plus (word64 at xs) more)) h

-- a number modulo 2^64 is as good as the number
pub add8_wrapped : (less more at : ℕ) (xs : List ℕ) → less < 2 ^ 64 → (more + less) % 2 ^ 64 ≡ 0 → more < 2 ^ 64 → add8 at more xs ≡ add8 at (2 ^ 64 - less) xs
unfolding add8
add8_wrapped less more at xs small sum fits =
    let same : plus (word64 at xs) more ≡ plus (word64 at xs) (2 ^ 64 - less) = omega (arith, small, sum, fits) in
    ap (λ (n : ℕ). put at (bytes64 n) xs) same

-- ---- all words

pub length-added : (w : ℕ) (ats : List ℕ) (xs : List ℕ) → AllIn (length xs) (word_windows ats) → length (added w ats xs) ≡ length xs
unfolding added
length-added w [] xs fits = refl
length-added w (at ∷ ats) xs fits =
    let len = length-add8 at w xs fits.0 in
    length-added w ats (add8 at w xs) (rw len fits.1) ∙ len

pub length-taken : (w : ℕ) (ats : List ℕ) (xs : List ℕ) → AllIn (length xs) (word_windows ats) → length (taken w ats xs) ≡ length xs
unfolding taken
length-taken w [] xs fits = refl
length-taken w (at ∷ ats) xs fits =
    let len = length-taken w ats xs fits.1 in
    length-add8 at (2 ^ 64 - w) (taken w ats xs) (rw len fits.0) ∙ len

-- what was added is subtracted, also where words overlap
pub taken_back : (w : ℕ) (ats : List ℕ) (xs : List ℕ) → AllIn (length xs) (word_windows ats) → IsBytes xs → w ≤ 2 ^ 64 → taken w ats (added w ats xs) ≡ xs
unfolding added taken
taken_back w [] xs fits h le = refl
taken_back w (at ∷ ats) xs fits h le =
    let len = length-add8 at w xs fits.0 in
    ap (add8 at (2 ^ 64 - w)) (taken_back w ats (add8 at w xs) (rw len fits.1) (add8_bytes at w xs h) le) ∙ add8_back at w xs fits.0 h le

-- ---- one word more

pub added-none : (w : ℕ) (xs : List ℕ) → added w [] xs ≡ xs
unfolding added
added-none w xs = refl

pub taken-none : (w : ℕ) (xs : List ℕ) → taken w [] xs ≡ xs
unfolding taken
taken-none w xs = refl

taken-next : (w at : ℕ) (ats : List ℕ) (xs : List ℕ) → taken w (at ∷ ats) xs ≡ add8 at (2 ^ 64 - w) (taken w ats xs)
unfolding taken
taken-next w at ats xs = refl

pub word_in : (n : ℕ) (ats : List ℕ) (i d : ℕ) → AllIn n (word_windows ats) → i < length ats → get_or ats i d + 8 ≤ n
word_in n [] i d fits lt = absurd (omega (arith, lt))
word_in n (at ∷ ats) zero d fits lt = fits.0
word_in n (at ∷ ats) (suc i) d fits lt = word_in n ats i d fits.1 (omega (arith, lt))

added-next : (w : ℕ) (ats : List ℕ) (i d : ℕ) (xs : List ℕ) → i < length ats → add8 (get_or ats i d) w (added w (take i ats) xs) ≡ added w (take (suc i) ats) xs
unfolding added
added-next w [] i d xs lt = absurd (omega (arith, lt))
added-next w (at ∷ ats) zero d xs lt = refl
added-next w (at ∷ ats) (suc i) d xs lt = added-next w ats i d (add8 at w xs) (omega (arith, lt))

-- from the first on
pub added_more : (w : ℕ) (ats : List ℕ) (i d : ℕ) (xs ys new : List ℕ) → i < length ats → ys ≡ added w (take i ats) xs → new ≡ add8 (get_or ats i d) w ys → new ≡ added w (take (i + 1) ats) xs
added_more w ats i d xs ys new lt is written = written ∙ ap (add8 (get_or ats i d) w) is ∙ added-next w ats i d xs lt ∙ ap (λ (k : ℕ). added w (take k ats) xs) (sym (add-one i))

-- from the last on
pub taken_more : (w : ℕ) (ats : List ℕ) (i d : ℕ) (xs ys new : List ℕ) → 0 < i → i ≤ length ats → ys ≡ taken w (drop i ats) xs → new ≡ add8 (get_or ats (i - 1) d) (2 ^ 64 - w) ys → new ≡ taken w (drop (i - 1) ats) xs
taken_more w ats i d xs ys new some le is written =
    let here : suc (i - 1) ≡ i = omega (arith, some) in
    let cut : drop (i - 1) ats ≡ get_or ats (i - 1) d ∷ drop i ats = drop-cons ats (i - 1) d (omega (arith, some, le)) ∙ ap (λ (k : ℕ). get_or ats (i - 1) d ∷ drop k ats) here in
    written ∙ ap (add8 (get_or ats (i - 1) d) (2 ^ 64 - w)) is ∙ sym (taken-next w (get_or ats (i - 1) d) (drop i ats) xs) ∙ ap (λ (us : List ℕ). taken w us xs) (sym cut)

pub taken_first : (w : ℕ) (ats : List ℕ) (xs : List ℕ) → xs ≡ taken w (drop (length ats) ats) xs
taken_first w ats xs = sym (taken-none w xs) ∙ ap (λ (us : List ℕ). taken w us xs) (sym (drop_all (length ats) ats (omega arith)))

-- ---- the type

pub typed_bytes : (kind : ℕ) (xs : List ℕ) → IsBytes xs → IsBytes (typed kind xs)
unfolding typed
typed_bytes kind xs h = is_bytes_put 16 (bytes16 kind) xs (is_bytes_bytes16 kind) h

pub length-typed : (kind : ℕ) (xs : List ℕ) → 64 ≤ length xs → length (typed kind xs) ≡ length xs
unfolding typed
length-typed kind xs long = length-put 16 (bytes16 kind) xs (omega (arith, long, length_bytes16 kind))

-- a file with a header had one before its type was written
pub long_is : (kind : ℕ) (xs : List ℕ) → 64 ≤ length (typed kind xs) → 64 ≤ length xs
unfolding typed put
long_is kind xs long =
    let new : List ℕ = bytes16 kind in
    let all : length (take 16 xs ++ new ++ drop (16 + length new) xs) ≡ length (take 16 xs ++ new) + length (drop (16 + length new) xs) = length-append (take 16 xs ++ new) (drop (16 + length new) xs) in
    omega (arith, long, all, length-append (take 16 xs) new, length-take 16 xs, length-drop (16 + length new) xs, length_bytes16 kind)

-- other bytes of the same length, and then the old ones
put_back : (at : ℕ) (new xs : List ℕ) → at + length new ≤ length xs → put at (part at (length new) xs) (put at new xs) ≡ xs
put_back at new xs fits =
    agree_nowhere (put at (part at (length new) xs) (put at new xs)) xs
    (agree_back (record { at = at; size = length new }) [] (put at new xs) xs (agree_edit [] at new xs xs (agree_same xs) fits) fits)

pub typed_back : (kind other : ℕ) (xs : List ℕ) → 64 ≤ length xs → IsBytes xs → word16 16 xs ≡ kind → typed kind (typed other xs) ≡ xs
unfolding typed
typed_back kind other xs long h is =
    let size = length_bytes16 other in
    let old : bytes16 kind ≡ part 16 (length (bytes16 other)) xs = ap bytes16 (sym is) ∙ bytes16_word 16 xs (omega (arith, long)) h ∙ ap (λ (n : ℕ). part 16 n xs) (sym size) in
    ap (λ (y : List ℕ). put 16 y (put 16 (bytes16 other) xs)) old ∙ put_back 16 (bytes16 other) xs (omega (arith, long, size))
