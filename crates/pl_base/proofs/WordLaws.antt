-- Words in bytes: a word depends on its own bytes, is read as it was written, and stays where a put lies apart.
use Rattle.std.proofs.Common.{◌≡◌, ℕ, zero, suc, ◌+◌, ◌-◌, ◌/◌, ◌^◌, ◌<◌, ◌≤◌, List, [], ◌++◌, length, take, drop, replicate, refl, sym, ap, ◌∙◌, arith, inl, inr, rules}
use Rattle.std.specs.Prelude.{◌⊎◌}
use Rattle.std.specs.Int.{w16, w32, w64, to_le_bytes, from_le_bytes, byte_at, bytes_low_first}
use Rattle.std.proofs.Math.Seq.{drop-append-add}
use Rattle.std.proofs.lemmas.Bool.{cases_lt}
use Rattle.std.proofs.lemmas.List.{places, append-nil, drop-drop, take-append-drop, get_or-drop, get_or_append_left, get_or-append_right}
use Rattle.std.proofs.lemmas.Nat.{le_bytes_2, le_bytes_4, le_bytes_8, mod_below}
use Rattle.byteorder.specs.Endian.{little_from, little_number, little_bytes}
use Rattle.byteorder.specs.Numbers.{little_from-take, little_from-lt, little_number-reads_back, length-bytes_low_first}
use Rattle.pl_base.specs.Bytes.{IsBytes, word16, word32, word64, bytes16, bytes32, bytes64, part, put}
use Rattle.pl_base.specs.Windows.{gap, ◌⊕◌}
use Rattle.pl_base.proofs.WindowLaws.{within_put, part_apart, part_part, part_front, put_itself, length-part}

-- ---- lists of bytes

-- no bytes
pub is_bytes_nil : IsBytes []
is_bytes_nil i = omega arith

-- what is left after a drop
pub is_bytes_drop : (n : ℕ) (xs : List ℕ) → IsBytes xs → IsBytes (drop n xs)
is_bytes_drop n xs h i = rw (get_or-drop n xs i 0) (h (n + i))

-- what is taken
pub is_bytes_take : (n : ℕ) (xs : List ℕ) → IsBytes xs → IsBytes (take n xs)
is_bytes_take n xs h i = search (rules, places)

-- a part
pub is_bytes_part : (at size : ℕ) (xs : List ℕ) → IsBytes xs → IsBytes (part at size xs)
is_bytes_part at size xs h = is_bytes_take size (drop at xs) (is_bytes_drop at xs h)

-- two lists
pub is_bytes_append : (xs ys : List ℕ) → IsBytes xs → IsBytes ys → IsBytes (xs ++ ys)
is_bytes_append xs ys h k i = elim (cases_lt i (length xs)) [
  | inl lt ↦ rw (get_or_append_left xs ys 0 i lt) (h i)
  | inr le ↦ rw (get_or-append_right xs ys (length xs) i 0 refl le) (k (i - length xs))
]

-- what is put
pub is_bytes_put : (at : ℕ) (new xs : List ℕ) → IsBytes new → IsBytes xs → IsBytes (put at new xs)
unfolding put
is_bytes_put at new xs h k = is_bytes_append (take at xs ++ new) (drop (at + length new) xs) (is_bytes_append (take at xs) new (is_bytes_take at xs k) h) (is_bytes_drop (at + length new) xs k)

-- zeros
pub is_bytes_zeros : (n : ℕ) → IsBytes (replicate n 0)
is_bytes_zeros zero i = omega arith
is_bytes_zeros (suc n) zero = omega arith
is_bytes_zeros (suc n) (suc i) = is_bytes_zeros n i

-- parts one after the other
pub is_bytes_⊕ : (front next : List ℕ) → IsBytes front → IsBytes next → IsBytes (front ⊕ next)
is_bytes_⊕ front next h k = is_bytes_append (front ++ replicate (gap (length front)) 0) next (is_bytes_append front (replicate (gap (length front)) 0) h (is_bytes_zeros (gap (length front)))) k

-- ---- numbers of k bytes

-- a number by its bytes alone
number_within : (k at : ℕ) (xs : List ℕ) → little_number k (drop at xs) ≡ little_number k (drop 0 (part at k xs))
number_within k at xs = sym (little_from-take 0 k k (drop at xs) (omega arith))

number_same : (k at at' : ℕ) (xs ys : List ℕ) → part at k xs ≡ part at' k ys → little_number k (drop at xs) ≡ little_number k (drop at' ys)
number_same k at at' xs ys same = number_within k at xs ∙ ap (little_number k) same ∙ sym (number_within k at' ys)

-- what was put is read
number_put : (k at number : ℕ) (new xs : List ℕ) → new ≡ little_bytes k number → at + k ≤ length xs → number < 256 ^ k → little_number k (drop at (put at new xs)) ≡ number
number_put k at number new xs is fits small =
    let size : length new ≡ k = ap length is ∙ length-bytes_low_first 0 k number in
    let there : part at k (put at new xs) ≡ new = ap (λ (n : ℕ). part at n (put at new xs)) (sym size) ∙ within_put at new xs (omega (arith, size, fits)) in
    number_within k at (put at new xs)
    ∙ ap (little_number k) (there ∙ is ∙ sym (append-nil (little_bytes k number)))
    ∙ little_number-reads_back k number [] small

number_apart : (k at put_at : ℕ) (new xs : List ℕ) → put_at + length new ≤ length xs → (at + k ≤ put_at) ⊎ (put_at + length new ≤ at) → little_number k (drop at (put put_at new xs)) ≡ little_number k (drop at xs)
number_apart k at put_at new xs fits apart = number_same k at at (put put_at new xs) xs (part_apart at k put_at new xs fits apart)

number_part : (k at size i : ℕ) (xs : List ℕ) → i + k ≤ size → little_number k (drop i (part at size xs)) ≡ little_number k (drop (at + i) xs)
number_part k at size i xs le = number_same k i (at + i) (part at size xs) xs (part_part at size i k xs le)

number_front : (k at : ℕ) (xs ys : List ℕ) → at + k ≤ length xs → little_number k (drop at (xs ++ ys)) ≡ little_number k (drop at xs)
number_front k at xs ys le = number_same k at at (xs ++ ys) xs (part_front at k xs ys le)

one_byte : (j number : ℕ) → byte_at j number < 256
one_byte zero number = omega arith
one_byte (suc j) number = mod_below (number / 256 ^ suc j) 256 (omega arith)

bytes_are_bytes : (j k number : ℕ) → IsBytes (bytes_low_first j k number)
bytes_are_bytes j zero number i = omega arith
bytes_are_bytes j (suc k) number zero = one_byte j number
bytes_are_bytes j (suc k) number (suc i) = bytes_are_bytes (suc j) k number i

-- ---- 16 bits

-- a word in std's words
pub word16_std : (at : ℕ) (xs : List ℕ) → word16 at xs ≡ from_le_bytes w16 (drop at xs)
unfolding word16
word16_std at xs = omega arith

-- a number's bytes in std's words
pub bytes16_std : (number : ℕ) → bytes16 number ≡ to_le_bytes w16 number
unfolding bytes16
bytes16_std number = refl

-- how many bytes a number has
pub length_bytes16 : (number : ℕ) → length (bytes16 number) ≡ 2
unfolding bytes16
length_bytes16 number = length-bytes_low_first 0 2 number

-- they are bytes
pub is_bytes_bytes16 : (number : ℕ) → IsBytes (bytes16 number)
unfolding bytes16
is_bytes_bytes16 number = bytes_are_bytes 0 2 number

-- how great a word is
pub word16_below : (at : ℕ) (xs : List ℕ) → IsBytes xs → word16 at xs < 2 ^ 16
unfolding word16
word16_below at xs h =
    let below : little_from 0 2 (drop at xs) < 256 ^ 2 = little_from-lt 0 2 (drop at xs) (is_bytes_drop at xs h) in
    below

-- a word by its bytes alone
pub word16_within : (at : ℕ) (xs : List ℕ) → word16 at xs ≡ word16 0 (part at 2 xs)
unfolding word16
word16_within at xs = number_within 2 at xs

-- the same bytes give the same word
pub word16_same : (at at' : ℕ) (xs ys : List ℕ) → part at 2 xs ≡ part at' 2 ys → word16 at xs ≡ word16 at' ys
unfolding word16
word16_same at at' xs ys same = number_same 2 at at' xs ys same

-- a word in a part
pub word16_part : (at size i : ℕ) (xs : List ℕ) → i + 2 ≤ size → word16 i (part at size xs) ≡ word16 (at + i) xs
unfolding word16
word16_part at size i xs le = number_part 2 at size i xs le

-- a word wholly in the front of two lists
pub word16_front : (at : ℕ) (xs ys : List ℕ) → at + 2 ≤ length xs → word16 at (xs ++ ys) ≡ word16 at xs
unfolding word16
word16_front at xs ys le = number_front 2 at xs ys le

-- behind a front it stands where it stands in the rest
pub word16_behind : (front rest : List ℕ) (at : ℕ) → word16 (length front + at) (front ++ rest) ≡ word16 at rest
unfolding word16
word16_behind front rest at = ap (little_number 2) (drop-append-add front rest at)

-- a number in front of other bytes is read as it was written
pub word16_back : (number : ℕ) (rest : List ℕ) → number < 2 ^ 16 → word16 0 (bytes16 number ++ rest) ≡ number
unfolding word16 bytes16
word16_back number rest small = little_number-reads_back 2 number rest small

-- what was written is read
pub word16_put : (at number : ℕ) (xs : List ℕ) → at + 2 ≤ length xs → number < 2 ^ 16 → word16 at (put at (bytes16 number) xs) ≡ number
unfolding word16 bytes16
word16_put at number xs fits small = number_put 2 at number (little_bytes 2 number) xs refl fits small

-- a word apart from a put stays
pub word16_apart : (at put_at : ℕ) (new xs : List ℕ) → put_at + length new ≤ length xs → (at + 2 ≤ put_at) ⊎ (put_at + length new ≤ at) → word16 at (put put_at new xs) ≡ word16 at xs
unfolding word16
word16_apart at put_at new xs fits apart = number_apart 2 at put_at new xs fits apart

-- a word's bytes are those that stand there
pub bytes16_word : (at : ℕ) (xs : List ℕ) → at + 2 ≤ length xs → IsBytes xs → bytes16 (word16 at xs) ≡ part at 2 xs
bytes16_word at xs fits h =
    bytes16_std (word16 at xs)
    ∙ le_bytes_2 (part at 2 xs) (word16 at xs) (length-part at 2 xs fits) (is_bytes_part at 2 xs h) (word16_within at xs ∙ word16_std 0 (part at 2 xs))

-- a word written over itself changes nothing
pub put_word16 : (at : ℕ) (xs : List ℕ) → at + 2 ≤ length xs → IsBytes xs → put at (bytes16 (word16 at xs)) xs ≡ xs
put_word16 at xs fits h = ap (λ (new : List ℕ). put at new xs) (bytes16_word at xs fits h) ∙ put_itself at 2 xs fits

-- ---- 32 bits

-- a word in std's words
pub word32_std : (at : ℕ) (xs : List ℕ) → word32 at xs ≡ from_le_bytes w32 (drop at xs)
unfolding word32
word32_std at xs = omega arith

-- a number's bytes in std's words
pub bytes32_std : (number : ℕ) → bytes32 number ≡ to_le_bytes w32 number
unfolding bytes32
bytes32_std number = refl

-- how many bytes a number has
pub length_bytes32 : (number : ℕ) → length (bytes32 number) ≡ 4
unfolding bytes32
length_bytes32 number = length-bytes_low_first 0 4 number

-- they are bytes
pub is_bytes_bytes32 : (number : ℕ) → IsBytes (bytes32 number)
unfolding bytes32
is_bytes_bytes32 number = bytes_are_bytes 0 4 number

-- how great a word is
pub word32_below : (at : ℕ) (xs : List ℕ) → IsBytes xs → word32 at xs < 2 ^ 32
unfolding word32
word32_below at xs h =
    let below : little_from 0 4 (drop at xs) < 256 ^ 4 = little_from-lt 0 4 (drop at xs) (is_bytes_drop at xs h) in
    below

-- a word by its bytes alone
pub word32_within : (at : ℕ) (xs : List ℕ) → word32 at xs ≡ word32 0 (part at 4 xs)
unfolding word32
word32_within at xs = number_within 4 at xs

-- the same bytes give the same word
pub word32_same : (at at' : ℕ) (xs ys : List ℕ) → part at 4 xs ≡ part at' 4 ys → word32 at xs ≡ word32 at' ys
unfolding word32
word32_same at at' xs ys same = number_same 4 at at' xs ys same

-- a word in a part
pub word32_part : (at size i : ℕ) (xs : List ℕ) → i + 4 ≤ size → word32 i (part at size xs) ≡ word32 (at + i) xs
unfolding word32
word32_part at size i xs le = number_part 4 at size i xs le

-- a word wholly in the front of two lists
pub word32_front : (at : ℕ) (xs ys : List ℕ) → at + 4 ≤ length xs → word32 at (xs ++ ys) ≡ word32 at xs
unfolding word32
word32_front at xs ys le = number_front 4 at xs ys le

-- behind a front it stands where it stands in the rest
pub word32_behind : (front rest : List ℕ) (at : ℕ) → word32 (length front + at) (front ++ rest) ≡ word32 at rest
unfolding word32
word32_behind front rest at = ap (little_number 4) (drop-append-add front rest at)

-- a number in front of other bytes is read as it was written
pub word32_back : (number : ℕ) (rest : List ℕ) → number < 2 ^ 32 → word32 0 (bytes32 number ++ rest) ≡ number
unfolding word32 bytes32
word32_back number rest small = little_number-reads_back 4 number rest small

-- what was written is read
pub word32_put : (at number : ℕ) (xs : List ℕ) → at + 4 ≤ length xs → number < 2 ^ 32 → word32 at (put at (bytes32 number) xs) ≡ number
unfolding word32 bytes32
word32_put at number xs fits small = number_put 4 at number (little_bytes 4 number) xs refl fits small

-- a word apart from a put stays
pub word32_apart : (at put_at : ℕ) (new xs : List ℕ) → put_at + length new ≤ length xs → (at + 4 ≤ put_at) ⊎ (put_at + length new ≤ at) → word32 at (put put_at new xs) ≡ word32 at xs
unfolding word32
word32_apart at put_at new xs fits apart = number_apart 4 at put_at new xs fits apart

-- a word's bytes are those that stand there
pub bytes32_word : (at : ℕ) (xs : List ℕ) → at + 4 ≤ length xs → IsBytes xs → bytes32 (word32 at xs) ≡ part at 4 xs
bytes32_word at xs fits h =
    bytes32_std (word32 at xs)
    ∙ le_bytes_4 (part at 4 xs) (word32 at xs) (length-part at 4 xs fits) (is_bytes_part at 4 xs h) (word32_within at xs ∙ word32_std 0 (part at 4 xs))

-- bytes from an offset on are the word there, and what follows
pub split32 : (at next : ℕ) (xs : List ℕ) → IsBytes xs → at + 4 ≡ next → next ≤ length xs → drop at xs ≡ bytes32 (word32 at xs) ++ drop next xs
split32 at next xs bytes is within =
    rw (bytes32_word at xs (omega arith) bytes, ← is, ← drop-drop 4 at xs) (sym (take-append-drop 4 (drop at xs)))

-- a word written over itself changes nothing
pub put_word32 : (at : ℕ) (xs : List ℕ) → at + 4 ≤ length xs → IsBytes xs → put at (bytes32 (word32 at xs)) xs ≡ xs
put_word32 at xs fits h = ap (λ (new : List ℕ). put at new xs) (bytes32_word at xs fits h) ∙ put_itself at 4 xs fits

-- ---- 64 bits

-- a word in std's words
pub word64_std : (at : ℕ) (xs : List ℕ) → word64 at xs ≡ from_le_bytes w64 (drop at xs)
unfolding word64
word64_std at xs = omega arith

-- a number's bytes in std's words
pub bytes64_std : (number : ℕ) → bytes64 number ≡ to_le_bytes w64 number
unfolding bytes64
bytes64_std number = refl

-- how many bytes a number has
pub length_bytes64 : (number : ℕ) → length (bytes64 number) ≡ 8
unfolding bytes64
length_bytes64 number = length-bytes_low_first 0 8 number

-- they are bytes
pub is_bytes_bytes64 : (number : ℕ) → IsBytes (bytes64 number)
unfolding bytes64
is_bytes_bytes64 number = bytes_are_bytes 0 8 number

-- how great a word is
pub word64_below : (at : ℕ) (xs : List ℕ) → IsBytes xs → word64 at xs < 2 ^ 64
unfolding word64
word64_below at xs h =
    let below : little_from 0 8 (drop at xs) < 256 ^ 8 = little_from-lt 0 8 (drop at xs) (is_bytes_drop at xs h) in
    below

-- a word by its bytes alone
pub word64_within : (at : ℕ) (xs : List ℕ) → word64 at xs ≡ word64 0 (part at 8 xs)
unfolding word64
word64_within at xs = number_within 8 at xs

-- the same bytes give the same word
pub word64_same : (at at' : ℕ) (xs ys : List ℕ) → part at 8 xs ≡ part at' 8 ys → word64 at xs ≡ word64 at' ys
unfolding word64
word64_same at at' xs ys same = number_same 8 at at' xs ys same

-- a word in a part
pub word64_part : (at size i : ℕ) (xs : List ℕ) → i + 8 ≤ size → word64 i (part at size xs) ≡ word64 (at + i) xs
unfolding word64
word64_part at size i xs le = number_part 8 at size i xs le

-- a word wholly in the front of two lists
pub word64_front : (at : ℕ) (xs ys : List ℕ) → at + 8 ≤ length xs → word64 at (xs ++ ys) ≡ word64 at xs
unfolding word64
word64_front at xs ys le = number_front 8 at xs ys le

-- behind a front it stands where it stands in the rest
pub word64_behind : (front rest : List ℕ) (at : ℕ) → word64 (length front + at) (front ++ rest) ≡ word64 at rest
unfolding word64
word64_behind front rest at = ap (little_number 8) (drop-append-add front rest at)

-- a number in front of other bytes is read as it was written
pub word64_back : (number : ℕ) (rest : List ℕ) → number < 2 ^ 64 → word64 0 (bytes64 number ++ rest) ≡ number
unfolding word64 bytes64
word64_back number rest small = little_number-reads_back 8 number rest small

-- what was written is read
pub word64_put : (at number : ℕ) (xs : List ℕ) → at + 8 ≤ length xs → number < 2 ^ 64 → word64 at (put at (bytes64 number) xs) ≡ number
unfolding word64 bytes64
word64_put at number xs fits small = number_put 8 at number (little_bytes 8 number) xs refl fits small

-- a word apart from a put stays
pub word64_apart : (at put_at : ℕ) (new xs : List ℕ) → put_at + length new ≤ length xs → (at + 8 ≤ put_at) ⊎ (put_at + length new ≤ at) → word64 at (put put_at new xs) ≡ word64 at xs
unfolding word64
word64_apart at put_at new xs fits apart = number_apart 8 at put_at new xs fits apart

-- a word's bytes are those that stand there
pub bytes64_word : (at : ℕ) (xs : List ℕ) → at + 8 ≤ length xs → IsBytes xs → bytes64 (word64 at xs) ≡ part at 8 xs
bytes64_word at xs fits h =
    bytes64_std (word64 at xs)
    ∙ le_bytes_8 (part at 8 xs) (word64 at xs) (length-part at 8 xs fits) (is_bytes_part at 8 xs h) (word64_within at xs ∙ word64_std 0 (part at 8 xs))

-- bytes from an offset on are the word there, and what follows
pub split64 : (at next : ℕ) (xs : List ℕ) → IsBytes xs → at + 8 ≡ next → next ≤ length xs → drop at xs ≡ bytes64 (word64 at xs) ++ drop next xs
split64 at next xs bytes is within =
    rw (bytes64_word at xs (omega arith) bytes, ← is, ← drop-drop 8 at xs) (sym (take-append-drop 8 (drop at xs)))

-- a word written over itself changes nothing
pub put_word64 : (at : ℕ) (xs : List ℕ) → at + 8 ≤ length xs → IsBytes xs → put at (bytes64 (word64 at xs)) xs ≡ xs
put_word64 at xs fits h = ap (λ (new : List ℕ). put at new xs) (bytes64_word at xs fits h) ∙ put_itself at 8 xs fits
